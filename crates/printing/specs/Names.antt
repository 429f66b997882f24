-- The texts of flags and names.
use Rattle.std.specs.Prelude.{ℕ, ◌+◌, ◌/◌, ◌%◌, Bool, not, is_none, ◌&&◌, nat_eq, nat_le, nat_lt, if◌then◌else◌, List, [], ◌∷◌, Result, Ok, Err}
use Rattle.std.specs.List.{flat_map}
use Rattle.names.specs.Units.{bad_text, units_of}
use Rattle.pool.specs.declared.fault.PoolFault.{PoolFault}
use Rattle.pool.specs.Entries.{Entry}
use Rattle.pool.specs.Lookups.{text_at, class_name_at}

-- a number below 16 as a small hexadecimal digit
abbrev pub digit : ℕ → ℕ
digit n = if nat_lt n 10 then n + 48 else n + 87

-- a number below 65,536 as four of them
abbrev pub hexadecimal : ℕ → List ℕ
hexadecimal n = digit (n / 4096) ∷ digit (n / 256 % 16) ∷ digit (n / 16 % 16) ∷ digit (n % 16) ∷ []

-- units of printable ASCII but the backslash stand as they are
abbrev pub is_plain : ℕ → Bool
is_plain unit = nat_le 32 unit && nat_le unit 126 && not (nat_eq unit 92)

-- another unit is `\u` and its digits
abbrev pub unit_text : ℕ → List ℕ
unit_text unit = if is_plain unit then unit ∷ [] else 92 ∷ 117 ∷ hexadecimal unit

abbrev pub name_text : List ℕ → List ℕ
name_text bytes = flat_map unit_text (units_of bytes)

-- the text of bytes that spell one; of others nothing
abbrev pub spelled_text : List ℕ → List ℕ
spelled_text bytes = if is_none (bad_text bytes) then name_text bytes else []

-- ---- texts of the constant pool; of a constant that is not there nothing is written

abbrev pub looked_up : Result (List ℕ) PoolFault → List ℕ
looked_up (Ok bytes) = name_text bytes
looked_up (Err fault) = []

abbrev pub constant_text : List Entry → ℕ → List ℕ
constant_text pool index = looked_up (text_at pool index)

abbrev pub class_text : List Entry → ℕ → List ℕ
class_text pool index = looked_up (class_name_at pool index)
