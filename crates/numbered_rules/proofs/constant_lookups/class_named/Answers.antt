use Rattle.std.proofs.Common.{◌≡◌, ◌∙◌, Some, None, option_map, sym, ap, subst, arith, nat_eq, false, true}
use Rattle.std.proofs.lemmas.Bool.Decides.{nat_tests}
use Rattle.pool.specs.ConstantMeanings.{class_at}
use Rattle.classfile.specs.Methods.{class_named}
use Rattle.frames.specs.Slots.{to_reference}
use Rattle.frames.specs.VerificationType.{class as class_of}
use Rattle.type_numbers.specs.Numbers.{IsNumber, IsNumberOf}
use Rattle.numbered_rules.proofs.Calling.{class_by_dims}
use Rattle.numbered_rules.proofs.NamedClasses.{class_type_is, array_unnamed}
use Rattle.numbered_rules.proofs.Naming.{number_named, number_missing}
use Rattle.numbered_rules.proofs.constant_lookups.class_named.Goals as goal

pub returns-in_default : goal.returns-in_default
returns-in_default c = λ s pool table.
    let o = class_at pool c.args.index in
    let none : o ≡ None = number_missing s to_reference o (subst (λ r. IsNumberOf s r (option_map to_reference o)) c.in_default.is (c.class_at.ensures s pool table)) in
    subst (λ z. IsNumberOf s None (option_map class_of (class_named z))) (sym none) tt

pub returns-then-dimensions-eq0 : goal.returns-then-dimensions-eq0
returns-then-dimensions-eq0 c = λ s pool table.
    let n = c.in-Some.class in
    let o = class_at pool c.args.index in
    let x = number_named s to_reference n o (subst (λ r. IsNumberOf s r (option_map to_reference o)) c.in-Some.is (c.class_at.ensures s pool table)) in
    let yes : nat_eq c.dimensions.result 0 ≡ true = grind (arith, nat_tests, c.if-dimensions-eq0.true) in
    let t = class_type_is x.value (sym (class_by_dims x.value c.dimensions.result (c.dimensions.ensures s x.value x.number)) ∙ yes) in
    subst (λ z. IsNumberOf s (Some n) (option_map class_of (class_named z))) (sym (x.is ∙ ap Some t.is)) (subst (λ r. IsNumber s n (to_reference r)) t.is x.number)

pub returns-else-dimensions-eq0 : goal.returns-else-dimensions-eq0
returns-else-dimensions-eq0 c = λ s pool table.
    let o = class_at pool c.args.index in
    let x = number_named s to_reference c.in-Some.class o (subst (λ r. IsNumberOf s r (option_map to_reference o)) c.in-Some.is (c.class_at.ensures s pool table)) in
    let no : nat_eq c.dimensions.result 0 ≡ false = grind (arith, nat_tests, c.if-dimensions-eq0.false) in
    let none = array_unnamed o x.value x.is (sym (class_by_dims x.value c.dimensions.result (c.dimensions.ensures s x.value x.number)) ∙ no) in
    subst (λ z. IsNumberOf s None (option_map class_of z)) (sym none) tt
