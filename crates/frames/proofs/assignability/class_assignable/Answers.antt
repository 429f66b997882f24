use Rattle.std.proofs.Common.{◌≡◌, ◌∙◌, ℕ, List, false, Some, sym, refl, ap}
use Rattle.std.specs.Str.{bytes_eq}
use Rattle.names.specs.StandardNames.{object_name}
use Rattle.hierarchy.specs.Class.{ClassFact, interface_of}
use Rattle.hierarchy.specs.Answer.{outcome_of, subclass_answer}
use Rattle.hierarchy.proofs.Subclass.{one_answer}
use Rattle.frames.specs.Assignable.{class_answer}
use Rattle.frames.proofs.assignability.class_assignable.Goals as goal

looked_up : (classes : List ClassFact) (a b : List ℕ) → bytes_eq a b ≡ false → bytes_eq b object_name ≡ false → interface_of classes b ≡ Some false → class_answer classes a b ≡ subclass_answer classes a b
looked_up classes a b e f g = rw (e, f, g) (rw e refl)

pub returns-in-Some-false : goal.returns-in-Some-false
returns-in-Some-false g c =
    let classes = g.C.Classes.content c.args.classes.now in
    let a = c.args.from.now in
    let b = c.args.to.now in
    (one_answer classes a b (outcome_of c.is_subclass.result)).0 c.is_subclass.ensures
    ∙ sym (looked_up classes a b (sym c.if-eq.ensures) (sym c.if-eq-2.ensures) (sym c.in-Some-false.ensures ∙ ap (λ t. Some t) c.in-Some-false.field-0-test))
