-- Replacements that are pending, and what a number is when they are done.
use Rattle.std.specs.Prelude.{◌≡◌, ◌≢◌, ℕ, ◌<◌, List, [], ◌∷◌, ◌⊎◌, map, length, slice_index}
use Rattle.blocks.specs.Rows.{Rows, replaced}
use Rattle.blocks.specs.declared.pending.Pair.{Pair}

abbrev pub no_pair : Pair
no_pair = record { number = 0; by = 0 }

-- a number after one replacement after another
abbrev pub shown : List Pair → ℕ → ℕ
shown [] n = n
shown (p ∷ ps) n = shown ps (replaced p.number p.by n)

-- rows whose running one is read through replacements that are pending
abbrev pub read_through : List Pair → Rows → Rows
read_through ps rows = record rows { running = map (shown ps) rows.running }

-- so many slots are read as they are: all, or none while replacements are pending
abbrev pub AreDirect : List Pair → ℕ → Type 0
AreDirect ps direct = 0 < direct → ps ≡ []

-- in some slots another number took the place of one, and nothing else changed
pub record AreReplacedSome (number by : ℕ) (old new : List ℕ) : Type 0 where
  pub size : length new ≡ length old
  pub each : (k : ℕ) → (slice_index new k ≡ slice_index old k)
      ⊎ ((slice_index old k ≡ number) × (slice_index new k ≡ by))

-- two replacements whose outcome is the same in both orders
pub record Commute (a b : Pair) : Type 0 where
  pub others : a.number ≢ b.number
  pub first : a.by ≢ b.number
  pub second : b.by ≢ a.number

-- one is done before these as if it were done after them
abbrev pub ShowsEarlier : Pair → List Pair → Type 0
ShowsEarlier p ps = (n : ℕ) → shown ps (replaced p.number p.by n) ≡ replaced p.number p.by (shown ps n)

-- one more is pending, as if it were the last
abbrev pub IsPushed : List Pair → ℕ → ℕ → List Pair → Type 0
IsPushed old number by new = (n : ℕ) → shown new n ≡ replaced number by (shown old n)
