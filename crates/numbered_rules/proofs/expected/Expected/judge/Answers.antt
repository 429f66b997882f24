use Rattle.std.proofs.Common.{◌≡◌, ◌∙◌, sym, ap, ap₂, subst}
use Rattle.names.specs.StandardNames.{object_name}
use Rattle.hierarchy.specs.Answer.{yes_if, outcome_of}
use Rattle.frames.specs.VerificationType.{class}
use Rattle.frames.specs.DeclaredFrames.{is_uninit_this}
use Rattle.type_numbers.specs.Decoding.{type_by}
use Rattle.type_numbers.proofs.Decoded.{number_read}
use Rattle.rules.specs.Rules.{is_array, is_array_for, is_reference}
use Rattle.numbered_rules.specs.declared.expected.Expected.TheVariants.{Object, ObjectArray}
use Rattle.numbered_rules.specs.Expected.{accepts_by, objects, IsExpected}
use Rattle.numbered_rules.specs.private.TypeParts.{is_array_by, is_array_for_by, is_own_by, is_reference_by}
use Rattle.numbered_rules.proofs.Meeting.{numbers_answer, own_or_other}
use Rattle.numbered_rules.proofs.TypeParts.{reference_parts, array_parts, array_for_parts, own_parts}
use Rattle.numbered_rules.proofs.expected.Expected.judge.Goals as goal

pub returns-in-Assignable : goal.returns-in-Assignable
returns-in-Assignable g c =
    let s = c.args.types.now in
    numbers_answer s c.args.number c.in-Assignable.to (outcome_of c.assignable.result) c.requires.given (subst (IsExpected s) c.in-Assignable.is c.requires.expected) c.assignable.ensures
    ∙ ap (λ e. accepts_by s e (type_by s c.args.number)) (sym c.in-Assignable.is)

pub returns-in-Reference : goal.returns-in-Reference
returns-in-Reference g c =
    let s = c.args.types.now in
    let x = c.requires.given in
    let told : c.is_reference.result ≡ is_reference x.0 = c.is_reference.ensures ∙ ap is_reference_by c.of.ensures.tag ∙ reference_parts s c.args.number x.0 x.1 in
    c.yes_if.ensures ∙ ap yes_if (told ∙ ap is_reference (sym (number_read s c.args.number x.0 x.1)))
    ∙ ap (λ e. accepts_by s e (type_by s c.args.number)) (sym c.in-Reference.is)

pub returns-in-Array : goal.returns-in-Array
returns-in-Array g c =
    let s = c.args.types.now in
    let x = c.requires.given in
    let p = c.of-in-Array.ensures in
    let told : c.is_array.result ≡ is_array x.0 = c.is_array.ensures ∙ ap₂ is_array_by p.tag p.dims ∙ array_parts s c.args.number x.0 x.1 in
    c.yes_if-in-Array.ensures ∙ ap yes_if (told ∙ ap is_array (sym (number_read s c.args.number x.0 x.1)))
    ∙ ap (λ e. accepts_by s e (type_by s c.args.number)) (sym c.in-Array.is)

pub returns-in-ArrayFor : goal.returns-in-ArrayFor
returns-in-ArrayFor g c =
    let s = c.args.types.now in
    let x = c.requires.given in
    let p = c.of-in-ArrayFor.ensures in
    let element = c.in-ArrayFor.primitive in
    let told : c.is_array_for.result ≡ is_array_for element x.0 = c.is_array_for.ensures ∙ (λ i. is_array_for_by element (p.tag i) (p.dims i) (p.rest i)) ∙ array_for_parts s c.args.number x.0 x.1 element in
    c.yes_if-in-ArrayFor.ensures ∙ ap yes_if (told ∙ ap (is_array_for element) (sym (number_read s c.args.number x.0 x.1)))
    ∙ ap (λ e. accepts_by s e (type_by s c.args.number)) (sym c.in-ArrayFor.is)

pub returns-else-is_own : goal.returns-else-is_own
returns-else-is_own g c =
    let s = c.args.types.now in
    let x = c.requires.given in
    let to = c.in-OwnOr.to in
    let told : c.is_own.result ≡ is_uninit_this x.0 = c.is_own.ensures ∙ ap is_own_by c.of-in-OwnOr.ensures.tag ∙ own_parts s c.args.number x.0 x.1 in
    let other = ap is_uninit_this (number_read s c.args.number x.0 x.1) ∙ sym told ∙ c.if-is_own.false in
    numbers_answer s c.args.number to (outcome_of c.assignable-else-is_own.result) x (subst (IsExpected s) c.in-OwnOr.is c.requires.expected) c.assignable-else-is_own.ensures
    ∙ own_or_other s.classes (type_by s to) (type_by s c.args.number) other
    ∙ ap (λ e. accepts_by s e (type_by s c.args.number)) (sym c.in-OwnOr.is)

pub returns-in-Object : goal.returns-in-Object
returns-in-Object g c =
    let s = c.args.types.now in
    let given : IsExpected s (Object c.in-Object.to) = subst (IsExpected s) c.in-Object.is c.requires.expected in
    numbers_answer s c.args.number c.in-Object.to (outcome_of c.assignable-in-Object.result) c.requires.given (class object_name, given) c.assignable-in-Object.ensures
    ∙ ap (λ e. accepts_by s e (type_by s c.args.number)) (sym c.in-Object.is)

pub returns-in-ObjectArray : goal.returns-in-ObjectArray
returns-in-ObjectArray g c =
    let s = c.args.types.now in
    let given : IsExpected s (ObjectArray c.in-ObjectArray.to) = subst (IsExpected s) c.in-ObjectArray.is c.requires.expected in
    numbers_answer s c.args.number c.in-ObjectArray.to (outcome_of c.assignable-in-ObjectArray.result) c.requires.given (objects, given) c.assignable-in-ObjectArray.ensures
    ∙ ap (λ e. accepts_by s e (type_by s c.args.number)) (sym c.in-ObjectArray.is)
