-- The parts of a switch by all bytes after its opcode, as an instruction keeps them (JVMS 6.5, tableswitch and
-- lookupswitch). All but the padding are fours of bytes, so the padding is what is left of the length.
use Rattle.std.specs.Prelude.{ℕ, ℤ, negsuc, ◌%◌, List, [], ◌∷◌, length, take, drop}
use Rattle.std.specs.Int.{cast_signed, w32}
use Rattle.byteorder.specs.Endian.{big_number}
use Rattle.insn.specs.Instructions.{Operands, table_switch, lookup_switch}

abbrev pub padding_of : List ℕ → List ℕ
padding_of bytes = take (length bytes % 4) bytes

-- the bytes after the padding
abbrev pub fours : List ℕ → List ℕ
fours bytes = drop (length bytes % 4) bytes

-- The number in front of fours. One whose bytes are missing counts as -1: so a switch that lacks bytes has no spelling,
-- since less than no pairs are counted, or offsets of at least one key are missing.
abbrev pub number_of : List ℕ → ℤ
number_of (a ∷ b ∷ c ∷ d ∷ others) = cast_signed w32 (big_number 4 (a ∷ b ∷ c ∷ d ∷ []))
number_of _ = negsuc 0

-- and the fours after it
abbrev pub behind : List ℕ → List ℕ
behind (a ∷ b ∷ c ∷ d ∷ others) = others
behind _ = []

abbrev pub default_of : List ℕ → ℤ
default_of bytes = number_of (fours bytes)

-- ---- tableswitch

abbrev pub low_of : List ℕ → ℤ
low_of bytes = number_of (behind (fours bytes))

abbrev pub high_of : List ℕ → ℤ
high_of bytes = number_of (behind (behind (fours bytes)))

abbrev pub table_of : List ℕ → List ℕ
table_of bytes = behind (behind (behind (fours bytes)))

abbrev pub table_switch_of : List ℕ → Operands
table_switch_of bytes = table_switch (padding_of bytes) (default_of bytes) (low_of bytes) (high_of bytes)
    (table_of bytes)

-- ---- lookupswitch

abbrev pub count_of : List ℕ → ℤ
count_of bytes = number_of (behind (fours bytes))

abbrev pub pairs_of : List ℕ → List ℕ
pairs_of bytes = behind (behind (fours bytes))

abbrev pub lookup_switch_of : List ℕ → Operands
lookup_switch_of bytes = lookup_switch (padding_of bytes) (default_of bytes) (count_of bytes) (pairs_of bytes)
