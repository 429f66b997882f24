-- Two rows of slots: where equal slots do not decide.
use Rattle.std.specs.Prelude.{◌≡◌, ℕ, ◌≤◌, ◌<◌, Bool, true, false, not, ◌||◌, nat_eq, List, length, Option, Some, None, slice_index}
use Rattle.frames.specs.Packing.{absent_slot}

-- the slots differ, or stand for absent classes
abbrev pub is_undecided : ℕ → ℕ → Bool
is_undecided a b = not (nat_eq a b) || nat_eq b absent_slot

-- the slots of two rows from one place up to another are equal, and of no absent class
abbrev pub AreDecided : List ℕ → List ℕ → ℕ → ℕ → Type 0
AreDecided a b from to = (k : ℕ) → from ≤ k → k < to → is_undecided (slice_index a k) (slice_index b k) ≡ false

-- the first place from one on that is not decided
abbrev pub IsFirstUndecided : List ℕ → List ℕ → ℕ → Option ℕ → Type 0
IsFirstUndecided a b from None = AreDecided a b from (length a)
IsFirstUndecided a b from (Some i) = (from ≤ i) × (i < length a)
    × (is_undecided (slice_index a i) (slice_index b i) ≡ true) × AreDecided a b from i
