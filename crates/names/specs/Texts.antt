-- Texts in modified UTF-8 (JVMS 4.4.7): lists of 16-bit units, and their one spelling in bytes, which is
-- each unit's shortest one in a row, with two bytes for 0.
use Rattle.std.specs.Prelude.{◌≡◌, ℕ, ◌+◌, ◌/◌, ◌%◌, ◌<◌, ◌^◌, List, [], ◌∷◌, ◌++◌, length, nat_lt, nat_eq, if◌then◌else◌}
use Rattle.std.specs.List.{flat_map, AllByRecursion}

-- one byte for 1 to 127, two for 0 and for 128 to 2047, three for the others
abbrev pub unit : ℕ → List ℕ
unit u =
    if nat_eq u 0 then 192 ∷ 128 ∷ []
    else if nat_lt u 128 then u ∷ []
    else if nat_lt u 2048 then (192 + u / 64) ∷ (128 + u % 64) ∷ []
    else (224 + u / 4096) ∷ (128 + (u / 64) % 64) ∷ (128 + u % 64) ∷ []

-- the spellings of the units, in a row
abbrev pub spelling : List ℕ → List ℕ
spelling units = flat_map unit units

-- the numbers have 16 bits
abbrev pub AreUnits : List ℕ → Type 0
AreUnits units = AllByRecursion (λ u. u < 2 ^ 16) units

-- the bytes are the spelling of some units
pub record IsText (bytes : List ℕ) : Type 0 where
  pub units : List ℕ
  pub fit : AreUnits units
  pub spelled : bytes ≡ spelling units

-- after the first k bytes, which spell units, stand bytes with which no unit's spelling begins
pub record FirstBad (bytes : List ℕ) (k : ℕ) : Type 0 where
  pub units : List ℕ
  pub others : List ℕ
  pub fit : AreUnits units
  pub parts : bytes ≡ spelling units ++ others
  pub at : length (spelling units) ≡ k
  pub more : 0 < length others
  pub bad : (u : ℕ) (x : List ℕ) → u < 2 ^ 16 → others ≡ unit u ++ x → ⊥
