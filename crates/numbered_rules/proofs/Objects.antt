-- Objects that are not initialized, on the running frame and in the rules.
use Rattle.std.proofs.Common.{◌≡◌, ◌∙◌, ℕ, ◌/◌, ◌%◌, ◌||◌, Bool, true, false, cond, nat_eq, List, [], ◌∷◌, length, refl, sym, ap, subst, arith, ◌⊎◌, inl, inr}
use Rattle.std.proofs.lemmas.Bool.{true≢false}
use Rattle.std.proofs.lemmas.Bool.Decides.{nat_tests}
use Rattle.classfile.specs.Methods.{Method}
use Rattle.insn.specs.Meanings.{Act}
use Rattle.frames.specs.VerificationType.{VerificationType, top, int, float, long, double, null, class, array, uninit_this, uninit}
use Rattle.frames.specs.Objects.{is_made_at, is_initialized}
use Rattle.frames.specs.Objects.{has_object}
use Rattle.type_numbers.specs.Decoding.{or_top, type_at, type_by, types_by}
use Rattle.type_numbers.specs.Numbers.{Numbering, IsNumber, IsGiven}
use Rattle.type_numbers.proofs.Decoded.{number_read, one_type}
use Rattle.type_numbers.proofs.LawsOfNumbers.{one_number}
use Rattle.method_frames.specs.NumberedFrames.{NumberedFrame, NumberedFrames, frame_by}
use Rattle.method_frames.specs.ObjectLaws.{IsObjectType, ObjectBecomes}
use Rattle.method_frames.specs.Objects.{own_object, is_uninitialized, flag_after as flag_by}
use Rattle.method_frames.proofs.ObjectNumbers.{object_by_type, object_tag}
use Rattle.method_frames.proofs.ObjectTypes.{own_number}
use Rattle.rules.specs.After.{class_after, flag_after}
use Rattle.rules.specs.Outcomes.{pushed}
use Rattle.rules.specs.Replacing.{initialized_frame}
use Rattle.rules.specs.Rules.{is_on_stack, may_construct}
use Rattle.rules.specs.After.{with_locals}
use Rattle.numbered_rules.specs.RunningFrame.{held, IsRunning}
use Rattle.numbered_rules.proofs.Taking.{IsUnder, under_held, under_running, running_then, types_stay}

-- the object that `new` made is on a stack
pub on_stack : (at : ℕ) (ts : List VerificationType) → has_object (uninit at) ts ≡ is_on_stack at ts
on_stack at [] = refl
on_stack at (t ∷ ts) = ap (λ b. is_made_at at t || b) (on_stack at ts)

module _ (old new : NumberedFrames) (rest : new ≡ record old { running = record old.running { locals = new.running.locals } }) where
  abbrev others : NumberedFrames
  others = record old { running = record old.running { locals = new.running.locals } }

  -- only the locals of the running frame are others
  pub locals_run : length new.running.locals ≡ length old.running.locals → IsRunning old new
  locals_run size = record { others = rest ∙ ap {A = NumberedFrame} {B = NumberedFrames} (λ f. record old { running = f }) (sym (ap {A = NumberedFrames} (λ x. x.running) rest)); size = size }

  pub locals_held : (change : List VerificationType) → types_by old.types new.running.locals ≡ change → held new ≡ with_locals (held old) change
  locals_held change e = ap held rest ∙ ap (with_locals (held old)) e

-- ---- by its number

module _ (s : Numbering) (n : ℕ) (t : VerificationType) (h : IsNumber s n t) where
  pub own_type : n ≡ own_object → t ≡ uninit_this
  own_type e = one_type s n t uninit_this h (subst (λ k. IsNumber s k uninit_this) (sym e) (own_number s))

  own_one : t ≡ uninit_this → n ≡ own_object
  own_one e = one_number s n own_object uninit_this (subst (IsNumber s n) e h) (own_number s)

  tagged : (tag : ℕ) → n / 16777216 ≡ tag → type_by s n ≡ or_top (type_at s tag (n / 65536 % 256) (n % 65536))
  tagged tag e = ap (λ k. or_top (type_at s k (n / 65536 % 256) (n % 65536))) e

  -- an object that `new` made
  pub made_type : is_uninitialized n ≡ true → (n ≡ own_object → ⊥) → t ≡ uninit (n % 65536)
  made_type o other = by (object_tag n o)
    where
      by : (n / 16777216 ≡ 6) ⊎ (n / 16777216 ≡ 8) → t ≡ uninit (n % 65536)
      by (inl e) = absurd (other (own_one (sym (number_read s n t h) ∙ tagged 6 e)))
      by (inr e) = sym (number_read s n t h) ∙ tagged 8 e

  module _ (m : Method Act) (name : List ℕ) where
    -- no object
    pub may_not : is_uninitialized n ≡ false → may_construct m name t ≡ false
    may_not o = by t refl
      where
        none : IsObjectType t → ⊥
        none own = true≢false (sym (object_by_type s n t h own) ∙ o)

        by : (u : VerificationType) → t ≡ u → may_construct m name u ≡ false
        by uninit_this e = absurd (none (ap (λ v. is_initialized v v) e))
        by (uninit at) e = let same : nat_eq at at ≡ true = grind (arith, nat_tests) in absurd (none (ap (λ v. is_initialized v v) e ∙ same))
        by top e = refl
        by int e = refl
        by float e = refl
        by long e = refl
        by double e = refl
        by null e = refl
        by (class c) e = refl
        by (array x) e = refl

    -- the class that it is of afterwards
    pub after_own : n ≡ own_object → class_after m name t ≡ m.class
    after_own e = ap (class_after m name) (own_type e)

    pub after_other : (n ≡ own_object → ⊥) → class_after m name t ≡ name
    after_other other = by t refl
      where
        by : (u : VerificationType) → t ≡ u → class_after m name u ≡ name
        by uninit_this e = absurd (other (own_one e))
        by _ e = refl

    -- a constructor may be called on it
    pub may_type : may_construct m name t ≡ true → IsObjectType t
    may_type = by t
      where
        by : (u : VerificationType) → may_construct m name u ≡ true → IsObjectType u
        by uninit_this e = refl
        by (uninit at) e = grind (arith, nat_tests)
        by top e = cc
        by int e = cc
        by float e = cc
        by long e = cc
        by double e = cc
        by null e = cc
        by (class c) e = cc
        by (array x) e = cc

    pub may_object : may_construct m name t ≡ true → is_uninitialized n ≡ true
    may_object e = object_by_type s n t h (may_type e)

  -- the flag afterwards
  flag_same : (flag : Bool) → flag_by n flag ≡ flag_after t flag
  flag_same flag = by (nat_eq n own_object) refl
    where
      other : (u : VerificationType) → t ≡ u → (n ≡ own_object → ⊥) → flag_after u flag ≡ flag
      other uninit_this e k = absurd (k (own_one e))
      other _ e k = refl

      by : (b : Bool) → nat_eq n own_object ≡ b → cond b false flag ≡ flag_after t flag
      by true e = let same : n ≡ own_object = grind (arith, nat_tests, e) in sym (ap (λ u. flag_after u flag) (own_type same))
      by false e = let unlike : n ≡ own_object → ⊥ = λ q. (let yes : nat_eq n own_object ≡ true = grind (arith, nat_tests, q) in true≢false (sym yes ∙ e)) in sym (other t refl unlike)

-- ---- once a constructor has returned

module _ (old new : NumberedFrames) (n : ℕ) (t : VerificationType) (name : List ℕ) (object : IsNumber old.types n t) where
  pub initialized_held : new ≡ record old { running = new.running } → ObjectBecomes t (class name) (frame_by old.types old.running) (frame_by old.types new.running)
      → new.running.flag ≡ flag_by n old.running.flag → held new ≡ initialized_frame t name (held old)
  initialized_held rest types flag =
      ap held rest
      ∙ (λ i. record { locals = types.locals i; stack = types.stack i; flag = (flag ∙ flag_same old.types n t object old.running.flag) i })

-- an object that was beneath the arguments
module _ (old was now : NumberedFrames) (n : ℕ) (running : IsRunning old was) (under : IsUnder was now n) (given : IsGiven was.types n) where
  pub beneath_number : IsNumber old.types n (type_by old.types n)
  beneath_number =
      let here : IsGiven old.types n = subst (λ s. IsGiven s n) (types_stay old was running) given in
      subst (IsNumber old.types n) (sym (number_read old.types n here.0 here.1)) here.1

  pub beneath_held : held was ≡ pushed (type_by old.types n ∷ []) (held now)
  beneath_held = under_held was now n under ∙ ap (λ s. pushed (type_by s n ∷ []) (held now)) (types_stay old was running)

  pub beneath_running : IsRunning old now
  beneath_running = running_then old was now running (under_running was now n under)
