-- The part of a file whose bytes are no class, in which the fault lies: a constant by its index and its kind, a field
-- or a method by its number, each after two blanks; after it an attribute by its number; and the fields of an object of
-- JSON that say this.
use Rattle.std.specs.Prelude.{ℕ, nat_eq, if◌then◌else◌, List, [], ◌∷◌, ◌++◌, codes, decimal, Option}
use Rattle.std.specs.Option.{option_map_or}
use Rattle.classfile.specs.declared.file_parts.FilePart.{FilePart}
use Rattle.classfile.specs.declared.form_fault.Place.{Place}
use Rattle.classfile.specs.declared.form_fault.Place.TheVariants.{Pool, Class, Field, Method}
use Rattle.printing.specs.FaultFields.{place_fields}
use Rattle.printing.specs.Json as json
use Rattle.printing.specs.Json.{number, written}

-- the kind of the constants with this tag, after a blank (JVMS 4.4); nothing where there is none
abbrev pub kind_behind : ℕ → List ℕ
kind_behind tag =
    if nat_eq tag 1 then codes " Utf8"
    else if nat_eq tag 3 then codes " Integer"
    else if nat_eq tag 4 then codes " Float"
    else if nat_eq tag 5 then codes " Long"
    else if nat_eq tag 6 then codes " Double"
    else if nat_eq tag 7 then codes " Class"
    else if nat_eq tag 8 then codes " String"
    else if nat_eq tag 9 then codes " Fieldref"
    else if nat_eq tag 10 then codes " Methodref"
    else if nat_eq tag 11 then codes " InterfaceMethodref"
    else if nat_eq tag 12 then codes " NameAndType"
    else if nat_eq tag 15 then codes " MethodHandle"
    else if nat_eq tag 16 then codes " MethodType"
    else if nat_eq tag 17 then codes " Dynamic"
    else if nat_eq tag 18 then codes " InvokeDynamic"
    else []

abbrev pub tagged_text : ℕ → Option ℕ → List ℕ
tagged_text index tag = decimal index ++ option_map_or kind_behind tag []

-- ---- as lines

abbrev pub numbered_line : List ℕ → ℕ → List ℕ
numbered_line kind n = codes "  " ++ (kind ++ (codes " " ++ (decimal n ++ codes "\n")))

-- no line for the class itself
abbrev pub place_line : Place → Option ℕ → List ℕ
place_line (Pool index) tag = codes "  constant " ++ (tagged_text index tag ++ codes "\n")
place_line Class tag = []
place_line (Field n) tag = numbered_line (codes "field") n
place_line (Method n) tag = numbered_line (codes "method") n

abbrev pub file_part_lines : FilePart → List ℕ
file_part_lines p =
    place_line p.place p.tag ++ option_map_or (numbered_line (codes "attribute")) p.attribute []

-- ---- as fields of an object of JSON

abbrev pub tagged_fields : Place → Option ℕ → List json.Field
tagged_fields (Pool index) tag = (codes "constant", written (tagged_text index tag)) ∷ []
tagged_fields place tag = []

abbrev pub attribute_fields : ℕ → List json.Field
attribute_fields n = (codes "attribute", number n) ∷ []

abbrev pub file_part_fields : FilePart → List json.Field
file_part_fields p =
    place_fields p.place ++ (tagged_fields p.place p.tag ++ option_map_or attribute_fields p.attribute [])
