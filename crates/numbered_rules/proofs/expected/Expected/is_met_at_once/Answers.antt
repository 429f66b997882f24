use Rattle.std.proofs.Common.{◌≡◌, ◌∙◌, sym, ap, ap₂, arith, subst}
use Rattle.std.proofs.lemmas.Bool.{true≢false}
use Rattle.std.proofs.lemmas.Bool.Decides.{nat_tests}
use Rattle.std.specs.Prelude.{not}
use Rattle.hierarchy.specs.Answer.{yes_if}
use Rattle.frames.specs.Assignable.{type_answer}
use Rattle.frames.proofs.Types.{type_itself}
use Rattle.type_numbers.specs.Decoding.{type_by}
use Rattle.type_numbers.proofs.Decoded.{number_read}
use Rattle.method_frames.proofs.ObjectNumbers.{object_by_type}
use Rattle.rules.specs.Rules.{is_array, is_array_for, is_reference}
use Rattle.numbered_rules.specs.Expected.{accepts_by, objects, own_or, IsExpected}
use Rattle.numbered_rules.specs.private.TypeParts.{holds_references, holds_references_by, is_array_by, is_array_for_by, is_reference_by}
use Rattle.numbered_rules.proofs.AtOnce.{references_yes, object_yes, own_itself}
use Rattle.numbered_rules.proofs.Elements.{holds_parts}
use Rattle.numbered_rules.proofs.TypeParts.{reference_parts, array_parts, array_for_parts}
use Rattle.numbered_rules.proofs.expected.Expected.is_met_at_once.Goals as goal

pub returns-in-Assignable : goal.returns-in-Assignable
returns-in-Assignable c = λ s x e m.
    let n = c.args.number in
    let t = type_by s n in
    let same : n ≡ c.in-Assignable.to = grind (arith, nat_tests, m) in
    ap (λ z. accepts_by s z t) c.in-Assignable.is ∙ ap (λ k. type_answer s.classes t (type_by s k)) (sym same) ∙ type_itself s.classes t

pub returns-in-OwnOr : goal.returns-in-OwnOr
returns-in-OwnOr c = λ s x e m.
    let n = c.args.number in
    let t = type_by s n in
    let same : n ≡ c.in-OwnOr.to = grind (arith, nat_tests, m) in
    ap (λ z. accepts_by s z t) c.in-OwnOr.is ∙ ap (λ k. own_or s.classes (type_by s k) t) (sym same) ∙ own_itself s.classes t

pub returns-in-Reference : goal.returns-in-Reference
returns-in-Reference c = λ s x e m.
    let n = c.args.number in
    let told : c.is_reference.result ≡ is_reference x.0 = c.is_reference.ensures ∙ ap is_reference_by c.of.ensures.tag ∙ reference_parts s n x.0 x.1 in
    ap (λ z. accepts_by s z (type_by s n)) c.in-Reference.is ∙ ap yes_if (ap is_reference (number_read s n x.0 x.1) ∙ sym told ∙ m)

pub returns-in-Array : goal.returns-in-Array
returns-in-Array c = λ s x e m.
    let n = c.args.number in
    let p = c.of-in-Array.ensures in
    let told : c.is_array.result ≡ is_array x.0 = c.is_array.ensures ∙ ap₂ is_array_by p.tag p.dims ∙ array_parts s n x.0 x.1 in
    ap (λ z. accepts_by s z (type_by s n)) c.in-Array.is ∙ ap yes_if (ap is_array (number_read s n x.0 x.1) ∙ sym told ∙ m)

pub returns-in-ArrayFor : goal.returns-in-ArrayFor
returns-in-ArrayFor c = λ s x e m.
    let n = c.args.number in
    let p = c.of-in-ArrayFor.ensures in
    let element = c.in-ArrayFor.primitive in
    let told : c.is_array_for.result ≡ is_array_for element x.0 = c.is_array_for.ensures ∙ (λ i. is_array_for_by element (p.tag i) (p.dims i) (p.rest i)) ∙ array_for_parts s n x.0 x.1 element in
    ap (λ z. accepts_by s z (type_by s n)) c.in-ArrayFor.is ∙ ap yes_if (ap (is_array_for element) (number_read s n x.0 x.1) ∙ sym told ∙ m)

pub returns-then-is_reference : goal.returns-then-is_reference
returns-then-is_reference c = λ s x e m.
    let n = c.args.number in
    let k = subst (IsExpected s) c.in-Object.is e in
    let told : c.is_reference-in-Object.result ≡ is_reference x.0 = c.is_reference-in-Object.ensures ∙ ap is_reference_by c.of-in-Object.ensures.tag ∙ reference_parts s n x.0 x.1 in
    ap (λ z. accepts_by s z (type_by s n)) c.in-Object.is
    ∙ ap₂ (type_answer s.classes) (number_read s n x.0 x.1) (number_read s c.in-Object.field-0 _ k)
    ∙ object_yes s.classes x.0 (sym told ∙ c.if-is_reference.true) (λ o. true≢false (sym m ∙ ap not (c.is_uninitialized.ensures ∙ object_by_type s n x.0 x.1 o)))

pub returns-in-ObjectArray : goal.returns-in-ObjectArray
returns-in-ObjectArray c = λ s x e m.
    let n = c.args.number in
    let k = subst (IsExpected s) c.in-ObjectArray.is e in
    let p = c.of-in-ObjectArray.ensures in
    let told : c.holds_references.result ≡ holds_references x.0 = c.holds_references.ensures ∙ ap₂ holds_references_by p.tag p.dims ∙ holds_parts s n x.0 x.1 in
    ap (λ z. accepts_by s z (type_by s n)) c.in-ObjectArray.is
    ∙ ap₂ (type_answer s.classes) (number_read s n x.0 x.1) (number_read s c.in-ObjectArray.field-0 objects k)
    ∙ references_yes s.classes x.0 (sym told ∙ m)
