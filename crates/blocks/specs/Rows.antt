-- The rows of a method: one number for each local variable, which stands for its verification type (JVMS 4.10.1.2).
use Rattle.std.specs.Prelude.{◌≡◌, ◌≢◌, ℕ, ◌≤◌, ◌<◌, Bool, true, false, nat_eq, ◌||◌, if◌then◌else◌, ◌⊎◌, List, [], length, slice_index, slice_index_or, Option, Some, None, Contains}

pub record Rows : Type 0 where
  -- the row of the running frame
  pub running : List ℕ
  -- the rows of the declared frames, in the order in which they were declared
  pub declared : List (List ℕ)
  -- what the running row held when it was kept last, at first Top throughout
  pub kept : List ℕ
  -- pairs of numbers of which the first was said to fit the second
  pub known : List (ℕ × ℕ)

abbrev pub declared_row : Rows → ℕ → List ℕ
declared_row rows row = slice_index_or rows.declared row []

-- numbers alone show that the first fits the second: they are equal, or Top is wanted
abbrev pub is_decided : ℕ → ℕ → Bool
is_decided number wanted = nat_eq number wanted || nat_eq wanted 0

-- another number takes the place of one
abbrev pub replaced : ℕ → ℕ → ℕ → ℕ
replaced number by n = if nat_eq n number then by else n

-- at a slot, the running row fits a declared one by numbers alone, or by what was said before
abbrev pub IsSettled : Rows → ℕ → ℕ → Type 0
IsSettled rows row slot =
    (is_decided (slice_index rows.running slot) (slice_index (declared_row rows row) slot) ≡ true)
    ⊎ Contains rows.known (slice_index rows.running slot, slice_index (declared_row rows row) slot)

-- the first slot from one on at which the running row does not fit a declared one by numbers alone, nor by what was
-- said
abbrev pub IsFirstUndecided : Rows → ℕ → ℕ → Option ℕ → Type 0
IsFirstUndecided rows row from None = (k : ℕ) → from ≤ k → k < length rows.running → IsSettled rows row k
IsFirstUndecided rows row from (Some slot) = (from ≤ slot) × (slot < length rows.running)
    × (is_decided (slice_index rows.running slot) (slice_index (declared_row rows row) slot) ≡ false)
    × ((k : ℕ) → from ≤ k → k < slot → IsSettled rows row k)

-- the first place from one on at which two rows differ
abbrev pub IsFirstUnequal : List ℕ → List ℕ → ℕ → Option ℕ → Type 0
IsFirstUnequal a b from None = (k : ℕ) → from ≤ k → k < length a → slice_index a k ≡ slice_index b k
IsFirstUnequal a b from (Some slot) = (from ≤ slot) × (slot < length a) × (slice_index a slot ≢ slice_index b slot)
    × ((k : ℕ) → from ≤ k → k < slot → slice_index a k ≡ slice_index b k)

-- two rows hold equal numbers from one place up to another
abbrev pub AreEqualBetween : List ℕ → List ℕ → ℕ → ℕ → Type 0
AreEqualBetween a b from to = (k : ℕ) → from ≤ k → k < to → slice_index a k ≡ slice_index b k

-- the two numbers of a slot
pub record StandsAt (row wanted : List ℕ) (a b : ℕ) : Type 0 where
  pub slot : ℕ
  pub inside : slot < length row
  pub first : a ≡ slice_index row slot
  pub second : b ≡ slice_index wanted slot

-- the running row was said to fit a declared one, and nothing else
pub record IsSaidToFit (old new : Rows) (row : ℕ) : Type 0 where
  pub running : new.running ≡ old.running
  pub declared : new.declared ≡ old.declared
  pub kept : new.kept ≡ old.kept
  pub settled : (k : ℕ) → k < length old.running → IsSettled new row k
  pub only : (a b : ℕ) → Contains new.known (a, b)
      → Contains old.known (a, b) ⊎ (is_decided a b ≡ true) ⊎ StandsAt old.running (declared_row old row) a b
