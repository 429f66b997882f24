-- The part of a decoded class at a place: a constant by its line, and the class, a field or a method by the lines of
-- `show`, each after two blanks; the attribute of these that breaks a rule; and the fields of an object of JSON that
-- say what these lines say.
use Rattle.std.specs.Prelude.{ℕ, nat_eq, if◌then◌else◌, List, [], ◌∷◌, ◌++◌, codes, decimal, slice_get}
use Rattle.std.specs.Option.{option_map_or}
use Rattle.pool.specs.Entries.{Entry}
use Rattle.pool.specs.Lookups.{text_at}
use Rattle.classfile.specs.Values.{Member, Class as ClassValue}
use Rattle.classfile.specs.AttributeFault.{attribute_at_fault, attribute_name}
use Rattle.classfile.specs.declared.form_fault.FormRule.{FormRule}
use Rattle.classfile.specs.declared.form_fault.Place.{Place}
use Rattle.classfile.specs.declared.form_fault.Place.TheVariants.{Pool, Class, Field, Method}
use Rattle.printing.specs.Names.{hexadecimal}
use Rattle.printing.specs.NamesIn.{text_in, class_in}
use Rattle.printing.specs.Classes.{member_line, class_line, super_line}
use Rattle.printing.specs.Constants.{behind, constant_line, constant_fields}
use Rattle.printing.specs.Json as json
use Rattle.printing.specs.Json.{number, written}
use Rattle.printing.specs.declared.names_in.Within.TheVariants.{Words, Json}

abbrev pub part_lines : ClassValue → Place → List ℕ
part_lines c (Pool i) = constant_line c.constant_pool i
part_lines c Class = codes "  " ++ (class_line c ++ (codes "  " ++ super_line c))
part_lines c (Field n) = option_map_or (member_line (codes "  field ") c.constant_pool) (slice_get c.fields n) []
part_lines c (Method n) = option_map_or (member_line (codes "  method ") c.constant_pool) (slice_get c.methods n) []

-- ---- the attribute at fault: its number from 0, and its name if the index leads to a text

abbrev pub named_attribute_line : List Entry → ℕ → ℕ → List ℕ
named_attribute_line pool n name =
    codes "  attribute " ++ (decimal n ++ (behind Words (text_at pool name) ++ codes "\n"))

abbrev pub numbered_line : ClassValue → Place → ℕ → List ℕ
numbered_line c place n = option_map_or (named_attribute_line c.constant_pool n) (attribute_name c place n) []

-- nothing where no attribute breaks the rule
abbrev pub attribute_line : ClassValue → FormRule → Place → List ℕ
attribute_line c rule place = option_map_or (numbered_line c place) (attribute_at_fault c rule place) []

-- ---- as fields of an object of JSON

abbrev pub member_fields : List Entry → Member → List json.Field
member_fields pool m =
    (codes "flags", written (hexadecimal m.access_flags)) ∷ (codes "name", written (text_in Json pool m.name))
    ∷ (codes "descriptor", written (text_in Json pool m.descriptor)) ∷ []

-- 0 stands for no superclass
abbrev pub super_fields : List Entry → ℕ → List json.Field
super_fields pool index =
    if nat_eq index 0 then [] else (codes "super", written (class_in Json pool index)) ∷ []

abbrev pub class_fields : ClassValue → List json.Field
class_fields c =
    (codes "name", written (class_in Json c.constant_pool c.this_class)) ∷ (codes "major", number c.major_version)
    ∷ (codes "minor", number c.minor_version) ∷ (codes "flags", written (hexadecimal c.access_flags))
    ∷ super_fields c.constant_pool c.super_class

abbrev pub part_fields : ClassValue → Place → List json.Field
part_fields c (Pool i) = constant_fields c.constant_pool i
part_fields c Class = class_fields c
part_fields c (Field n) = option_map_or (member_fields c.constant_pool) (slice_get c.fields n) []
part_fields c (Method n) = option_map_or (member_fields c.constant_pool) (slice_get c.methods n) []

abbrev pub named_fields : List Entry → ℕ → ℕ → List json.Field
named_fields pool n name =
    (codes "attribute", number n) ∷ (codes "attribute_name", written (text_in Json pool name)) ∷ []

abbrev pub numbered_fields : ClassValue → Place → ℕ → List json.Field
numbered_fields c place n = option_map_or (named_fields c.constant_pool n) (attribute_name c place n) []

abbrev pub attribute_fields : ClassValue → FormRule → Place → List json.Field
attribute_fields c rule place = option_map_or (numbered_fields c place) (attribute_at_fault c rule place) []
