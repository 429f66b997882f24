use Rattle.std.proofs.Common.{◌≡◌, ◌<◌, ◌∙◌, [], ℕ, List, Some, Ok, Option, Result, not, length, map, sym, ap, subst, arith}
use Rattle.std.specs.Prelude.{slice_get}
use Rattle.std.proofs.lemmas.List.{length-map}
use Rattle.std.proofs.lemmas.Option.{slice_get_within}
use Rattle.names.specs.Reading.{method_answer}
use Rattle.pool.specs.declared.fault.PoolFault.{PoolFault}
use Rattle.pool.specs.Lookups.{Answers, text_at}
use Rattle.classfile.specs.Values.{Member}
use Rattle.classfile.specs.Flags.{has, STATIC}
use Rattle.classfile.specs.Views.{member_view}
use Rattle.classfile.specs.CodeMethods.{class_of, code_method_view, types_of}
use Rattle.classfile.proofs.Places.{viewed_at}
use Rattle.classfile.proofs.MethodLaws.{member_of, read_from}
use Rattle.classfile.proofs.code_method.CodeMethod.descriptor.Goals as goal

same_member : (a b : Member) → (let x : Option Member = Some a in x) ≡ Some b → a ≡ b
same_member a b e = cc

same_text : (a b : List ℕ) → (let x : Result (List ℕ) PoolFault = Ok a in x) ≡ Ok b → a ≡ b
same_text a b e = cc

pub returns : goal.returns
returns c =
    let m = c.args.self in
    let pool = m.class.now.constant_pool in
    let methods = m.class.now.methods.items in
    let is = member_of (class_of m) m.number (code_method_view m []) m.is_method in
    let from = read_from pool is.member (types_of m) is.type_is in
    let read = member_view c.index-member.result.now in
    let bytes = c.unwrap.result.bytes.now in
    let lt : m.number < length methods =
    omega (arith, slice_get_within (map member_view methods) m.number is.member is.here, length-map methods member_view) in
    let here : slice_get (map member_view methods) m.number ≡ Some read =
    viewed_at member_view methods m.number c.index-member.result.now lt c.index-member.ensures in
    let same : read ≡ is.member = same_member read is.member (sym here ∙ is.here) in
    let found : text_at pool read.descriptor ≡ Ok bytes =
    subst (λ r. Answers (λ t. t.bytes.now) (text_at pool read.descriptor) r) c.unwrap.ensures c.text.ensures in
    let text : bytes ≡ from.text =
    same_text bytes from.text (sym found ∙ ap (λ (x : Member). text_at pool x.descriptor) same ∙ from.text_is) in
    ap (λ b. method_answer (not b) bytes) is.static_is ∙ ap (method_answer (not (has is.member.access_flags STATIC))) text ∙ from.read
