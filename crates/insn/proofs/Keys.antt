-- The pairs of a switch, one after the other.
use Rattle.std.proofs.Common.{◌≡◌, ℕ, ℤ, ◌+◌, ◌≤◌, ◌-◌, List, [], ◌∷◌, length, take, drop, get_or, refl, arith}
use Rattle.std.proofs.lemmas.List.{take_rest}
use Rattle.std.specs.Int.{cast_signed, w32}
use Rattle.byteorder.specs.Endian.{big_number}
use Rattle.insn.specs.Instructions.{pairs}

-- the number of four bytes from a place on
abbrev pub number_at : List ℕ → ℕ → ℤ
number_at bytes i = cast_signed w32 (big_number 4 (get_or bytes i 0 ∷ get_or bytes (i + 1) 0 ∷ get_or bytes (i + 2) 0 ∷ get_or bytes (i + 3) 0 ∷ []))

front : (bytes : List ℕ) → 8 ≤ length bytes → pairs bytes ≡ (number_at bytes 0, number_at bytes 4) ∷ pairs (drop 8 bytes)
front (a ∷ b ∷ c ∷ d ∷ e ∷ f ∷ g ∷ h ∷ others) long = refl
front _ long = absurd (omega (arith, long))

pub pairs_on : (bytes : List ℕ) (key offset : ℤ) → 8 ≤ length bytes → key ≡ number_at bytes 0 → offset ≡ number_at bytes 4
    → pairs bytes ≡ (key, offset) ∷ pairs (take (length bytes - 8) (drop 8 bytes))
pairs_on bytes key offset long k o = rw (k, o, take_rest bytes 8) (front bytes long)
