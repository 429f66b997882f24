-- The forms of names that a text has (JVMS 4.2). Words of the code's own steps.
use Rattle.std.specs.Prelude.{◌≡◌, ◌↔◌, ◌≤◌, ◌<◌, ◌+◌, ℕ, Bool, true, not, ◌&&◌, ◌||◌, nat_eq, if◌then◌else◌, IsTrue, List, length, slice_index}
use Rattle.std.specs.Int.{w64, trailing_zeros}
use Rattle.names.specs.Names.{slash, is_name_unit, is_angle, IsUnqualifiedName, IsMethodName, IsClassName}
use Rattle.names.specs.declared.forms.NameForms.{NameForms}

pub record AreNameForms (bytes : List ℕ) (f : NameForms) : Type 0 where
  pub class : IsTrue f.class_name ↔ IsClassName bytes
  pub unqualified : IsTrue f.unqualified_name ↔ IsUnqualifiedName bytes
  pub method : IsTrue f.method_name ↔ IsMethodName bytes

-- a byte with which each name goes on, whatever stands before it
abbrev pub is_plain : ℕ → Bool
is_plain b = is_name_unit b && not (is_angle b)

-- the bytes from one place up to another are of a kind
abbrev pub AreBetween : (ℕ → Bool) → List ℕ → ℕ → ℕ → Type 0
AreBetween is bytes at end = (k : ℕ) → at ≤ k → k < end → is (slice_index bytes k) ≡ true

-- the first bytes, so many, of n from a place on are
abbrev pub AreIn : (ℕ → Bool) → List ℕ → ℕ → ℕ → ℕ → Type 0
AreIn is bytes at n count = (count ≤ n) × AreBetween is bytes at (at + count)

abbrev pub ArePlainBetween : List ℕ → ℕ → ℕ → Type 0
ArePlainBetween = AreBetween is_plain

abbrev pub ArePlainIn : List ℕ → ℕ → ℕ → ℕ → Type 0
ArePlainIn = AreIn is_plain

pub record IsPlainUpTo (bytes : List ℕ) (at end : ℕ) : Type 0 where
  pub ordered : at ≤ end
  pub within : end ≤ length bytes
  pub plain : ArePlainBetween bytes at end

-- the place of the lowest bit that is set, or n
abbrev pub first_set : ℕ → ℕ → ℕ
first_set mask n = if nat_eq mask 0 then n else trailing_zeros w64 mask

-- a byte of a class name that the next may follow: no other than those of unqualified names and the slash, and not two
-- slashes
abbrev pub joins : ℕ → ℕ → Bool
joins b next = (is_name_unit b || nat_eq b slash) && not (nat_eq b slash && nat_eq next slash)

-- each byte from one place up to another, and the one after it
abbrev pub AreJoinedBetween : List ℕ → ℕ → ℕ → Type 0
AreJoinedBetween bytes at end = (k : ℕ) → at ≤ k → k < end
    → joins (slice_index bytes k) (slice_index bytes (k + 1)) ≡ true
