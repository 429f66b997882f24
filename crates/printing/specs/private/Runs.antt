-- Bytes of a name that stand as they are, one after the other. Words of the code's own steps.
use Rattle.std.specs.Prelude.{◌≡◌, ℕ, ◌+◌, ◌≤◌, ◌<◌, List, [], ◌∷◌, length, slice_index}

-- the byte spells a unit, whose text it is
pub record StandsAlone (text : ℕ → List ℕ) (byte : ℕ) : Type 0 where
  pub some : 0 < byte
  pub one : byte < 128
  pub alone : text byte ≡ byte ∷ []

-- each byte from one place up to another stands as it is
abbrev pub StandBetween : (ℕ → List ℕ) → List ℕ → ℕ → ℕ → Type 0
StandBetween text bytes at end = (k : ℕ) → at ≤ k → k < end → StandsAlone text (slice_index bytes k)

-- the first bytes, so many, of n from a place on
abbrev pub StandIn : (ℕ → List ℕ) → List ℕ → ℕ → ℕ → ℕ → Type 0
StandIn text bytes at n count = (count ≤ n) × StandBetween text bytes at (at + count)

-- the first bytes, so many
abbrev pub StandInFront : (ℕ → List ℕ) → List ℕ → ℕ → Type 0
StandInFront text bytes count = (count ≤ length bytes) × StandBetween text bytes 0 count
