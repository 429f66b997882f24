-- Names as they are written in a line of words, or in a string of JSON (RFC 8259, 7).
use Rattle.std.specs.Prelude.{ℕ, List, [], Result, Ok, Err}
use Rattle.std.specs.List.{flat_map}
use Rattle.names.specs.Units.{units_of}
use Rattle.pool.specs.declared.fault.PoolFault.{PoolFault}
use Rattle.pool.specs.Entries.{Entry}
use Rattle.pool.specs.Lookups.{text_at, class_name_at}
use Rattle.printing.specs.Names.{name_text, spelled_text}
use Rattle.printing.specs.Json.{character_text, spelled_units}
use Rattle.printing.specs.declared.names_in.Within.{Within}
use Rattle.printing.specs.declared.names_in.Within.TheVariants.{Words, Json}

abbrev pub name_in : Within → List ℕ → List ℕ
name_in Words bytes = name_text bytes
name_in Json bytes = flat_map character_text (units_of bytes)

-- the name in bytes that spell a text; nothing for other bytes
abbrev pub spelled_in : Within → List ℕ → List ℕ
spelled_in Words bytes = spelled_text bytes
spelled_in Json bytes = flat_map character_text (spelled_units bytes)

-- the name that was looked up in the constant pool; nothing where there is none
abbrev pub looked_up_in : Within → Result (List ℕ) PoolFault → List ℕ
looked_up_in within (Ok bytes) = name_in within bytes
looked_up_in within (Err fault) = []

abbrev pub text_in : Within → List Entry → ℕ → List ℕ
text_in within pool index = looked_up_in within (text_at pool index)

abbrev pub class_in : Within → List Entry → ℕ → List ℕ
class_in within pool index = looked_up_in within (class_name_at pool index)
