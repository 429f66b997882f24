-- The unit that a byte list begins with, and the first byte with which none begins: words that compute
-- what the spelling of units (Texts) says (JVMS 4.4.7).
use Rattle.std.specs.Prelude.{ℕ, zero, suc, length, drop, ◌+◌, ◌-◌, ◌*◌, not, Bool, List, [], ◌∷◌, nat_lt, nat_le, nat_eq, if◌then◌else◌, Option, Some, None, ◌&&◌, ◌||◌}

-- the unit that n bytes spell, unless fewer bytes spell it
abbrev pub shortest : ℕ → ℕ → ℕ → Option (ℕ × ℕ)
shortest u least n = if nat_le least u || nat_eq u 0 && nat_eq n 2 then Some (u, n) else None

-- the unit of a first byte from 192 to 223 and one more
abbrev pub two : ℕ → List ℕ → Option (ℕ × ℕ)
two a [] = None
two a (b ∷ bs) = if nat_le 128 b && nat_lt b 192 then shortest ((a - 192) * 64 + (b - 128)) 128 2 else None

-- the unit of a first byte from 224 to 239 and two more
abbrev pub three : ℕ → List ℕ → Option (ℕ × ℕ)
three a [] = None
three a (b ∷ []) = None
three a (b ∷ c ∷ bs) = if nat_le 128 b && nat_lt b 192 && nat_le 128 c && nat_lt c 192
    then shortest (((a - 224) * 64 + (b - 128)) * 64 + (c - 128)) 2048 3 else None

-- the unit and how many bytes it takes
abbrev pub unit_at : List ℕ → Option (ℕ × ℕ)
unit_at [] = None
unit_at (a ∷ bs) =
    if nat_lt a 128 then (if nat_eq a 0 then None else Some (a, 1))
    else if nat_lt a 192 then None
    else if nat_lt a 224 then two a bs
    else if nat_lt a 240 then three a bs
    else None

-- a byte that spells a unit by itself
abbrev pub is_single : ℕ → Bool
is_single b = nat_lt b 128 && not (nat_eq b 0)

-- what the rest of a text says after a unit, if there is one
abbrev pub bad_behind : (ℕ → List ℕ → Option ℕ) → ℕ → List ℕ → Option (ℕ × ℕ) → Option ℕ
bad_behind f at bytes None = Some at
bad_behind f at bytes (Some x) = f (at + x.1) (drop x.1 bytes)

-- where the first byte lies with which no unit begins, in so many units at most
unfoldable pub bad_from : ℕ → ℕ → List ℕ → Option ℕ
bad_from zero at bytes = None
bad_from (suc n) at [] = None
bad_from (suc n) at (b ∷ bytes) = bad_behind (bad_from n) at (b ∷ bytes) (unit_at (b ∷ bytes))

-- where the first unit without a right spelling lies
unfoldable pub bad_text : List ℕ → Option ℕ
bad_text bytes = bad_from (length bytes) 0 bytes

-- ---- the units of a text

-- the unit in front, and those after it
abbrev pub units_behind : (List ℕ → List ℕ) → List ℕ → Option (ℕ × ℕ) → List ℕ
units_behind f bytes None = []
units_behind f bytes (Some x) = x.0 ∷ f (drop x.1 bytes)

-- so many at most
unfoldable pub units_from : ℕ → List ℕ → List ℕ
units_from zero bytes = []
units_from (suc n) bytes = units_behind (units_from n) bytes (unit_at bytes)

-- those that the bytes begin with, which in a text are all
unfoldable pub units_of : List ℕ → List ℕ
units_of bytes = units_from (length bytes) bytes
