-- The conditions of `invokespecial` of a method that is no constructor.
use Rattle.std.proofs.Common.{◌≡◌, ℕ, Bool, true, false, List, [], ◌∷◌, Some, Result, refl, sym, ◌∙◌, ap, if◌then◌else◌}
use Rattle.names.specs.ReferenceTypes.{ReferenceType}
use Rattle.classfile.specs.Methods.{Method}
use Rattle.hierarchy.specs.Class.{ClassFact}
use Rattle.hierarchy.specs.Answer.{Outcome, yes, no, missing}
use Rattle.insn.specs.Meanings.{Act}
use Rattle.frames.specs.VerificationType.{VerificationType, class}
use Rattle.frames.specs.FrameFact.{FrameFact}
use Rattle.frames.specs.Assignable.{type_answer}
use Rattle.frames.specs.FrameAssignable.{both}
use Rattle.frames.specs.Slots.{to_reference}
use Rattle.frames.specs.Conditions.{reason, Conditions, least, is_no, missing_if}
use Rattle.rules.specs.declared.reason.Reason.{Reason}
use Rattle.rules.specs.TypingRules.{ExpectedType, calls_special}
use Rattle.rules.specs.After.{after}
use Rattle.rules.specs.Rules.{is_short, operands, is_too_wide, conditions}
use Rattle.rules.specs.Outcomes.{Done, TookOff, pushed, settled}
use Rattle.rules.proofs.Settling.{with_depth, redone}

abbrev parts : Outcome → Bool → Outcome → Conditions
parts own short a = if is_no own then (reason 66, true) ∷ [] else (reason 61, short) ∷ (reason 62, is_no a) ∷ missing_if (both a own) ∷ []

parts_short : (o : Outcome) (s : Bool) (a : Outcome) (w : Bool) → (o ≡ no → ⊥) → s ≡ true → least (with_depth w (parts o s a)) ≡ Some (reason 61)
parts_short o false a w n e = cc
parts_short no true a w n e = absurd (n refl)
parts_short yes true yes w n e = refl
parts_short yes true no w n e = refl
parts_short yes true (missing y) w n e = refl
parts_short (missing x) true yes w n e = refl
parts_short (missing x) true no w n e = refl
parts_short (missing x) true (missing y) w n e = refl

parts_no : (o : Outcome) (s : Bool) (a : Outcome) (w : Bool) → (o ≡ no → ⊥) → s ≡ false → a ≡ no → least (with_depth w (parts o s a)) ≡ Some (reason 62)
parts_no no s a w n e f = absurd (n refl)
parts_no yes true a w n e f = cc
parts_no (missing x) true a w n e f = cc
parts_no yes false yes w n e f = cc
parts_no yes false no w n e f = refl
parts_no yes false (missing y) w n e f = cc
parts_no (missing x) false yes w n e f = cc
parts_no (missing x) false no w n e f = refl
parts_no (missing x) false (missing y) w n e f = cc

parts_settled : (o : Outcome) (s : Bool) (a : Outcome) (w : Bool) → (o ≡ no → ⊥) → s ≡ false → (a ≡ no → ⊥) → least (with_depth w (parts o s a)) ≡ least ((reason 65, w) ∷ missing_if (both a o) ∷ [])
parts_settled no s a w n e f = absurd (n refl)
parts_settled yes true a w n e f = cc
parts_settled (missing x) true a w n e f = cc
parts_settled yes false no w n e f = absurd (f refl)
parts_settled (missing x) false no w n e f = absurd (f refl)
parts_settled yes false yes w n e f = refl
parts_settled yes false (missing y) w n e f = refl
parts_settled (missing x) false yes w n e f = refl
parts_settled (missing x) false (missing y) w n e f = refl

module _ (cs : List ClassFact) (m : Method Act) (at : ℕ) (type : ReferenceType) (ws : List ExpectedType) (gs : List VerificationType) (f : FrameFact) where
  abbrev all : Conditions
  all = conditions cs m at (calls_special type ws gs) f

  abbrev wide : Bool
  wide = is_too_wide m (after m at (calls_special type ws gs) f)

  abbrev own : Outcome
  own = type_answer cs (class m.class) (to_reference type)

  module _ (n : own ≡ no → ⊥) where
    pub special_short : is_short ws f.stack ≡ true → least all ≡ Some (reason 61)
    special_short e = parts_short own (is_short ws f.stack) (operands cs ws f.stack) wide n e

    pub special_no : (g : FrameFact) → TookOff cs ws f no g → least all ≡ Some (reason 62)
    special_no g t = parts_no own (is_short ws f.stack) (operands cs ws f.stack) wide n t.enough t.answer_is

    pub special_done : (a b : Outcome) (g now : FrameFact) (r : Result Unit Reason) → TookOff cs ws f a g → (a ≡ no → ⊥) → b ≡ both a own
        → Done (settled m b (pushed gs g)) (pushed gs g) now r → Done all (after m at (calls_special type ws gs) f) now r
    special_done a b g now r t k j d =
        redone all (settled m b (pushed gs g)) (after m at (calls_special type ws gs) f) (pushed gs g) now r
        (parts_settled own (is_short ws f.stack) (operands cs ws f.stack) wide n t.enough (λ z. k (sym t.answer_is ∙ z))
        ∙ ap (λ z. least ((reason 65, wide) ∷ missing_if (both z own) ∷ [])) t.answer_is
        ∙ ap (λ z. least ((reason 65, wide) ∷ missing_if z ∷ [])) (sym j)
        ∙ ap (λ z. least ((reason 65, is_too_wide m (pushed gs z)) ∷ missing_if b ∷ [])) (sym t.left_is))
        (ap (λ z. pushed gs z) (sym t.left_is)) d
