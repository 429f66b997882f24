-- Whether an object is among items, and their units where another type takes its place.
use Rattle.std.proofs.Common.{◌≡◌, ◌≢◌, ◌∙◌, ℕ, zero, suc, ◌+◌, ◌<◌, ◌||◌, Bool, true, false, cond, nat_eq, List, [], ◌∷◌, ◌++◌, length, map, get_or, reverse, refl, sym, ap, ap₂, arith}
use Rattle.std.proofs.lemmas.Bool.Decides.{nat_tests}
use Rattle.std.proofs.lemmas.List.{length-map, reverse-append}
use Rattle.frames.specs.FrameAssignable.{width_of}
use Rattle.frames.specs.Slots.{is_wide, units_of}
use Rattle.type_numbers.specs.Numbers.{Numbering}
use Rattle.type_numbers.specs.Decoding.{type_by, types_by}
use Rattle.method_frames.specs.Objects.{is_uninitialized, replaced, holds}
use Rattle.method_frames.specs.private.Counted.{IsCounted}
use Rattle.method_frames.proofs.ObjectNumbers.{object_narrow, narrow_width}

pub holds_at : (object : ℕ) (row : List ℕ) (i : ℕ) → i < length row → get_or row i 0 ≡ object → holds object row ≡ true
holds_at object [] i lt e = absurd (omega (arith, lt))
holds_at object (n ∷ ns) zero lt e = let t : nat_eq n object ≡ true = grind (arith, nat_tests, e) in rw t refl
holds_at object (n ∷ ns) (suc i) lt e = either (nat_eq n object) (holds_at object ns i (omega (arith, lt)) e)
  where
    either : (b : Bool) → holds object ns ≡ true → (b || holds object ns) ≡ true
    either true h = refl
    either false h = h

pub holds_none : (object : ℕ) (row : List ℕ) → ((i : ℕ) → get_or row i 0 ≢ object) → holds object row ≡ false
holds_none object [] none = refl
holds_none object (n ∷ ns) none =
    let first : nat_eq n object ≡ false = grind (arith, nat_tests, none 0) in
    rw first (holds_none object ns (λ i. none (suc i)))

or_nothing : (a b : Bool) → (a || (b || false)) ≡ (b || a)
or_nothing true true = refl
or_nothing true false = refl
or_nothing false true = refl
or_nothing false false = refl

holds_append : (object : ℕ) (xs ys : List ℕ) → holds object (xs ++ ys) ≡ (holds object xs || holds object ys)
holds_append object [] ys = refl
holds_append object (x ∷ xs) ys = step (nat_eq x object) (holds_append object xs ys)
  where
    step : (b : Bool) → holds object (xs ++ ys) ≡ (holds object xs || holds object ys) → (b || holds object (xs ++ ys)) ≡ ((b || holds object xs) || holds object ys)
    step true h = refl
    step false h = h

-- whichever end comes first
pub holds_reverse : (object : ℕ) (row : List ℕ) → holds object (reverse row) ≡ holds object row
holds_reverse object [] = refl
holds_reverse object (n ∷ ns) =
    ap (holds object) (reverse-append (n ∷ []) ns) ∙ holds_append object (reverse ns) (n ∷ [])
    ∙ or_nothing (holds object (reverse ns)) (nat_eq n object) ∙ ap (λ b. nat_eq n object || b) (holds_reverse object ns)

-- ---- units

module _ (object by : ℕ) (o : is_uninitialized object ≡ true) (narrow : (s : Numbering) → is_wide (type_by s by) ≡ false) (s : Numbering) where
  width_same : (n : ℕ) → width_of (type_by s (replaced object by n)) ≡ width_of (type_by s n)
  width_same n = which (nat_eq n object) refl
    where
      which : (b : Bool) → nat_eq n object ≡ b → width_of (type_by s (cond b by n)) ≡ width_of (type_by s n)
      which true e =
          let same : n ≡ object = grind (arith, nat_tests, e) in
          narrow_width (type_by s by) (narrow s) ∙ sym (narrow_width (type_by s object) (object_narrow object o s)) ∙ ap (λ m. width_of (type_by s m)) (sym same)
      which false e = refl

  pub units_replaced : (row : List ℕ) → units_of (types_by s (map (replaced object by) row)) ≡ units_of (types_by s row)
  units_replaced [] = refl
  units_replaced (n ∷ ns) = ap₂ (λ a b. a + b) (width_same n) (units_replaced ns)

pub counted_replaced : (object by : ℕ) → is_uninitialized object ≡ true → ((s : Numbering) → is_wide (type_by s by) ≡ false) → (row : List ℕ) (w : ℕ) → IsCounted row w → IsCounted (map (replaced object by) row) w
counted_replaced object by o narrow row w c = record {
  units = λ s. units_replaced object by o narrow s row ∙ c.units s ∙ ap (λ n. n + w) (sym (length-map row (replaced object by)));
}
