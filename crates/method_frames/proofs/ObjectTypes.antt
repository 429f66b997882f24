-- Objects that are not initialized by their types and by their numbers.
use Rattle.std.proofs.Common.{◌≡◌, ◌∙◌, ℕ, suc, ◌<◌, ◌||◌, Bool, true, false, cond, nat_eq, nat_lt, List, [], ◌∷◌, Result, Ok, Err, OnOk, map, refl, sym, ap, ap₂, subst, arith}
use Rattle.std.proofs.lemmas.Bool.{true≢false}
use Rattle.std.proofs.lemmas.Bool.Decides.{nat_tests}
use Rattle.frames.specs.VerificationType.{VerificationType, top, uninit_this, uninit}
use Rattle.frames.specs.Objects.{is_initialized, replaced as type_replaced}
use Rattle.frames.specs.Objects.{has_object}
use Rattle.frames.proofs.OneObject.{same_object}
use Rattle.type_numbers.specs.Numbers.{Numbering, IsNumber, IsGiven}
use Rattle.type_numbers.specs.Decoding.{type_by, types_by}
use Rattle.type_numbers.proofs.Decoded.{number_read}
use Rattle.type_numbers.proofs.LawsOfNumbers.{one_number}
use Rattle.method_frames.specs.Objects.{own_object, made_object, holds, replaced}
use Rattle.method_frames.specs.ObjectLaws.{IsObjectType}
use Rattle.method_frames.specs.private.KnownRows.{AreGiven}

pub own_number : (s : Numbering) → IsNumber s own_object uninit_this
own_number s = record { number = refl; noted = tt }

pub made_number : (s : Numbering) (at : ℕ) → at < 65536 → IsNumber s (made_object at) (uninit at)
made_number s at lt = let t : nat_lt at 65536 ≡ true = grind (arith, nat_tests, lt) in record { number = rw t refl; noted = tt }

-- ---- one number

module _ (s : Numbering) (object : ℕ) (o : VerificationType) (number : IsNumber s object o) (own : IsObjectType o) where
  -- a number is the object's where its type is the object
  pub same_test : (n : ℕ) → IsGiven s n → nat_eq n object ≡ is_initialized o (type_by s n)
  same_test n (t, k) = case (nat_eq n object) refl
    where
      case : (b : Bool) → nat_eq n object ≡ b → nat_eq n object ≡ is_initialized o (type_by s n)
      case true e =
          let same : n ≡ object = grind (arith, nat_tests, e) in
          e ∙ sym (ap (λ m. is_initialized o (type_by s m)) same ∙ ap (is_initialized o) (number_read s object o number) ∙ own)
      case false e = e ∙ sym (ap (is_initialized o) (number_read s n t k) ∙ other (is_initialized o t) refl)
        where
          other : (b : Bool) → is_initialized o t ≡ b → is_initialized o t ≡ false
          other false f = f
          other true f =
              let same : n ≡ object = one_number s n object o (subst (IsNumber s n) (same_object o t f) k) number in
              let yes : nat_eq n object ≡ true = grind (arith, nat_tests, same) in
              absurd (true≢false (sym yes ∙ e))

  pub found : (row : List ℕ) → AreGiven s row → holds object row ≡ has_object o (types_by s row)
  found [] all = refl
  found (n ∷ ns) all = ap₂ (λ a b. a || b) (same_test n (all 0 (omega arith))) (found ns (λ i lt. all (suc i) (omega (arith, lt))))

  module _ (by : ℕ) (t : VerificationType) (becomes : IsNumber s by t) where
    one_replaced : (n : ℕ) → IsGiven s n → type_by s (replaced object by n) ≡ type_replaced o t (type_by s n)
    one_replaced n given = case (nat_eq n object) refl
      where
        case : (b : Bool) → nat_eq n object ≡ b → type_by s (cond (nat_eq n object) by n) ≡ cond (is_initialized o (type_by s n)) t (type_by s n)
        case true e =
            ap (λ b. type_by s (cond b by n)) e ∙ number_read s by t becomes
            ∙ sym (ap (λ b. cond b t (type_by s n)) (sym (same_test n given) ∙ e))
        case false e =
            ap (λ b. type_by s (cond b by n)) e
            ∙ sym (ap (λ b. cond b t (type_by s n)) (sym (same_test n given) ∙ e))

    pub row_replaced : (row : List ℕ) → AreGiven s row → types_by s (map (replaced object by) row) ≡ map (type_replaced o t) (types_by s row)
    row_replaced [] all = refl
    row_replaced (n ∷ ns) all = ap₂ (λ x xs. x ∷ xs) (one_replaced n (all 0 (omega arith))) (row_replaced ns (λ i lt. all (suc i) (omega (arith, lt))))

-- Top takes the place of a type that `new` made
pub top_number : (s : Numbering) → IsNumber s 0 top
top_number s = record { number = refl; noted = tt }

abbrev pub BecomesAsTypes : Numbering → ℕ → ℕ → List ℕ → List ℕ → Type 0
BecomesAsTypes s object by old new = (o t : VerificationType) → IsNumber s object o → IsNumber s by t → IsObjectType o → types_by s new ≡ map (type_replaced o t) (types_by s old)

pub as_types : (s : Numbering) (object by : ℕ) (old new : List ℕ) → AreGiven s old → new ≡ map (replaced object by) old → BecomesAsTypes s object by old new
as_types s object by old new all e o t number becomes own = ap (types_by s) e ∙ row_replaced s object o number own by t becomes old all

pub ok_types : {E : Type 0} (s : Numbering) (object by : ℕ) (old new : List ℕ) (r : Result Unit E) → AreGiven s old → OnOk r (new ≡ map (replaced object by) old) → OnOk r (BecomesAsTypes s object by old new)
ok_types s object by old new (Ok u) all e = as_types s object by old new all e
ok_types s object by old new (Err x) all e = tt
