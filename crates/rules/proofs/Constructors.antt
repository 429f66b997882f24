-- The conditions of `new` and of a constructor's call, judged one after the other.
use Rattle.std.specs.Prelude.{not}
use Rattle.std.proofs.Common.{◌≡◌, ℕ, Bool, true, false, List, [], ◌∷◌, Some, Result, map, refl, sym, ◌∙◌, ap, subst}
use Rattle.classfile.specs.Methods.{Method}
use Rattle.hierarchy.specs.Class.{ClassFact}
use Rattle.hierarchy.specs.Answer.{Outcome, yes, no, missing}
use Rattle.insn.specs.Meanings.{Act}
use Rattle.insn.specs.OperandStacks.{beneath}
use Rattle.frames.specs.VerificationType.{VerificationType, uninit}
use Rattle.frames.specs.FrameFact.{FrameFact}
use Rattle.frames.specs.Conditions.{reason, Conditions, least, is_no, missing_if}
use Rattle.rules.specs.declared.reason.Reason.{Reason}
use Rattle.rules.specs.TypingRules.{ExpectedType, any_reference, constructs, makes}
use Rattle.rules.specs.After.{after, top_of, rest_of, forgotten, initialized, class_after, flag_after, constructed}
use Rattle.rules.specs.Replacing.{initialized_frame}
use Rattle.rules.specs.Rules.{is_short, operands, may_construct, is_too_wide, is_on_stack, conditions}
use Rattle.rules.specs.Outcomes.{Done, TookOff, pushed, settled}
use Rattle.rules.specs.After.{with_locals}
use Rattle.rules.proofs.Settling.{with_depth, redone}

-- ---- new

module _ (cs : List ClassFact) (m : Method Act) (at : ℕ) (name : List ℕ) (f : FrameFact) where
  makes_by : (b w : Bool) → b ≡ true → least (with_depth w ((reason 62, b) ∷ [])) ≡ Some (reason 62)
  makes_by true w e = refl
  makes_by false w e = cc

  free_by : (b w : Bool) → b ≡ false → least (with_depth w ((reason 62, b) ∷ [])) ≡ least ((reason 65, w) ∷ missing_if yes ∷ [])
  free_by true w e = cc
  free_by false true e = refl
  free_by false false e = refl

  pub makes_again : is_on_stack at f.stack ≡ true → least (conditions cs m at (makes name) f) ≡ Some (reason 62)
  makes_again e = makes_by (is_on_stack at f.stack) (is_too_wide m (after m at (makes name) f)) e

  pub makes_done : (g now : FrameFact) (r : Result Unit Reason) → is_on_stack at f.stack ≡ false → g ≡ with_locals f (map (forgotten at) f.locals)
      → Done (settled m yes (pushed (uninit at ∷ []) g)) (pushed (uninit at ∷ []) g) now r → Done (conditions cs m at (makes name) f) (after m at (makes name) f) now r
  makes_done g now r free e d =
      let h = with_locals f (map (forgotten at) f.locals) in
      redone (conditions cs m at (makes name) f) (settled m yes (pushed (uninit at ∷ []) h)) (after m at (makes name) f) (pushed (uninit at ∷ []) h) now r
      (free_by (is_on_stack at f.stack) (is_too_wide m (after m at (makes name) f)) free) refl
      (subst (λ z. Done (settled m yes (pushed (uninit at ∷ []) z)) (pushed (uninit at ∷ []) z) now r) e d)

-- ---- operands with one more beneath them

short_more : {A B : Type 0} (w : A) (ws : List A) (ts : List B) → is_short ws ts ≡ true → is_short (w ∷ ws) ts ≡ true
short_more w ws [] e = refl
short_more w [] (t ∷ ts) e = cc
short_more w (v ∷ ws) (t ∷ ts) e = short_more v ws ts e

short_at_end : {A B : Type 0} (w : A) (ws : List A) (ts : List B) → beneath ws ts ≡ [] → is_short (w ∷ ws) ts ≡ true
short_at_end w ws [] e = refl
short_at_end w [] (t ∷ ts) e = cc
short_at_end w (v ∷ ws) (t ∷ ts) e = short_at_end v ws ts e

long_enough : {A B : Type 0} (w : A) (ws : List A) (ts : List B) (u : B) (us : List B) → beneath ws ts ≡ u ∷ us → is_short (w ∷ ws) ts ≡ false
long_enough w [] [] u us e = cc
long_enough w (v ∷ ws) [] u us e = cc
long_enough w [] (t ∷ ts) u us e = refl
long_enough w (v ∷ ws) (t ∷ ts) u us e = long_enough v ws ts u us e

-- ---- a constructor's call

abbrev parts : Bool → Bool → Bool → Outcome → Conditions
parts none may short a = (reason 61, none) ∷ (reason 62, not may) ∷ (reason 61, short) ∷ (reason 62, is_no a) ∷ missing_if a ∷ []

parts_short : (n m s : Bool) (a : Outcome) (w : Bool) → n ≡ true → least (with_depth w (parts n m s a)) ≡ Some (reason 61)
parts_short false m s a w e = cc
parts_short true true true yes w e = refl
parts_short true true true no w e = refl
parts_short true true true (missing x) w e = refl
parts_short true true false yes w e = refl
parts_short true true false no w e = refl
parts_short true true false (missing x) w e = refl
parts_short true false true yes w e = refl
parts_short true false true no w e = refl
parts_short true false true (missing x) w e = refl
parts_short true false false yes w e = refl
parts_short true false false no w e = refl
parts_short true false false (missing x) w e = refl

parts_may_not : (n m s : Bool) (a : Outcome) (w : Bool) → n ≡ false → m ≡ false → s ≡ false → least (with_depth w (parts n m s a)) ≡ Some (reason 62)
parts_may_not true m s a w e f g = cc
parts_may_not false true s a w e f g = cc
parts_may_not false false true a w e f g = cc
parts_may_not false false false yes w e f g = refl
parts_may_not false false false no w e f g = refl
parts_may_not false false false (missing x) w e f g = refl

parts_no : (n m s : Bool) (a : Outcome) (w : Bool) → n ≡ false → s ≡ false → a ≡ no → least (with_depth w (parts n m s a)) ≡ Some (reason 62)
parts_no true m s a w e f g = cc
parts_no false m true a w e f g = cc
parts_no false m false yes w e f g = cc
parts_no false true false no w e f g = refl
parts_no false false false no w e f g = refl
parts_no false m false (missing x) w e f g = cc

parts_settled : (n m s : Bool) (a : Outcome) (w : Bool) → n ≡ false → m ≡ true → s ≡ false → (a ≡ no → ⊥) → least (with_depth w (parts n m s a)) ≡ least ((reason 65, w) ∷ missing_if a ∷ [])
parts_settled true m s a w e f g q = cc
parts_settled false false s a w e f g q = cc
parts_settled false true true a w e f g q = cc
parts_settled false true false yes w e f g q = refl
parts_settled false true false no w e f g q = absurd (q refl)
parts_settled false true false (missing x) w e f g q = refl

module _ (cs : List ClassFact) (m : Method Act) (at : ℕ) (name : List ℕ) (ws : List ExpectedType) (f : FrameFact) where
  abbrev all : Conditions
  all = conditions cs m at (constructs name ws) f

  abbrev wide : Bool
  wide = is_too_wide m (after m at (constructs name ws) f)

  abbrev may : Bool
  may = may_construct m name (top_of (beneath ws f.stack))

  abbrev lacks : Bool
  lacks = is_short (any_reference ∷ ws) f.stack

  pub constructs_short : is_short ws f.stack ≡ true → least all ≡ Some (reason 61)
  constructs_short e = parts_short lacks may (is_short ws f.stack) (operands cs ws f.stack) wide (short_more any_reference ws f.stack e)

  module _ (a : Outcome) (g : FrameFact) (t : TookOff cs ws f a g) where
    left : beneath ws f.stack ≡ g.stack
    left = sym (ap (λ (z : FrameFact). z.stack) t.left_is)

    pub constructs_nothing : g.stack ≡ [] → least all ≡ Some (reason 61)
    constructs_nothing e = parts_short lacks may (is_short ws f.stack) (operands cs ws f.stack) wide (short_at_end any_reference ws f.stack (left ∙ e))

    module _ (object : VerificationType) (h : FrameFact) (e : g ≡ pushed (object ∷ []) h) where
      beneath_is : beneath ws f.stack ≡ object ∷ h.stack
      beneath_is = left ∙ ap (λ (z : FrameFact). z.stack) e

      long : lacks ≡ false
      long = long_enough any_reference ws f.stack object h.stack beneath_is

      object_is : may ≡ may_construct m name object
      object_is = ap (λ ts. may_construct m name (top_of ts)) beneath_is

      pub constructs_may_not : may_construct m name object ≡ false → least all ≡ Some (reason 62)
      constructs_may_not n = parts_may_not lacks may (is_short ws f.stack) (operands cs ws f.stack) wide long (object_is ∙ n) t.enough

      pub constructs_no : a ≡ no → least all ≡ Some (reason 62)
      constructs_no n = parts_no lacks may (is_short ws f.stack) (operands cs ws f.stack) wide long t.enough (t.answer_is ∙ n)

      abbrev ready : FrameFact → FrameFact
      ready z =
          let change = initialized (top_of z.stack) (class_after m name (top_of z.stack)) in
          record { locals = map change z.locals; stack = map change (rest_of z.stack); flag = flag_after (top_of z.stack) z.flag }

      ready_is : constructed m name ws f ≡ initialized_frame object (class_after m name object) h
      ready_is = ap ready (sym t.left_is ∙ e)

      pub constructs_done : (i now : FrameFact) (class : List ℕ) (r : Result Unit Reason) → may_construct m name object ≡ true → (a ≡ no → ⊥) → class ≡ class_after m name object
          → i ≡ initialized_frame object class h → Done (settled m a (pushed [] i)) (pushed [] i) now r → Done all (after m at (constructs name ws) f) now r
      constructs_done i now class r can n k j d =
          let same : i ≡ constructed m name ws f = j ∙ ap (λ z. initialized_frame object z h) k ∙ sym ready_is in
          redone all (settled m a (pushed [] i)) (after m at (constructs name ws) f) (pushed [] i) now r
          (parts_settled lacks may (is_short ws f.stack) (operands cs ws f.stack) wide long (object_is ∙ can) t.enough (λ z. n (sym t.answer_is ∙ z))
          ∙ ap (λ z. least ((reason 65, wide) ∷ missing_if z ∷ [])) t.answer_is
          ∙ ap (λ z. least ((reason 65, is_too_wide m z) ∷ missing_if a ∷ [])) (sym same))
          (sym same) d
