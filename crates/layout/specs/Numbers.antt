-- Numbers of so many bytes, the highest first: bytes spell no number that passes its field.
use Rattle.std.specs.Prelude.{ℕ, ◌<◌, ◌^◌, List, slice_index}
use Rattle.std.proofs.Common.{suc, zero, [], ◌∷◌, arith, subst}
use Rattle.byteorder.specs.Numbers.{big_from-lt}
use Rattle.layout.specs.Format.{AreBytes, Spells, number}
use Rattle.layout.specs.FormatLaws.{AreBytes-parts}

byte_below : (bytes : List ℕ) → AreBytes bytes → (k : ℕ) → slice_index bytes k < 256
byte_below [] h k = omega arith
byte_below (b ∷ bytes) h zero = h.0
byte_below (b ∷ bytes) h (suc k) = byte_below bytes h.1 k

pub number_below : (n : ℕ) (bytes : List ℕ) (v : ℕ) → AreBytes bytes → Spells (number n) bytes v → v < 256 ^ n
number_below n bytes v fit s =
    let first = (AreBytes-parts s.0 s.1 (subst AreBytes s.3 fit)).0 in
    subst (λ (m : ℕ). m < 256 ^ n) s.4.1 (big_from-lt 0 n s.0 (byte_below s.0 first))
