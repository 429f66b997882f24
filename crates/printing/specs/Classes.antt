-- The lines of a class file: its parts in the order of the file, and of each method with code the lines of its code.
use Rattle.std.specs.Prelude.{ℕ, Bool, false, is_some, nat_eq, if◌then◌else◌, List, [], ◌∷◌, ◌++◌, codes, decimal, Option, Some, None}
use Rattle.std.specs.List.{flat_map, list_any}
use Rattle.std.specs.Option.{option_map_or}
use Rattle.pool.specs.Entries.{Entry}
use Rattle.classfile.specs.ClassAttributes.{components_of, permitted_of}
use Rattle.classfile.specs.Values.{Handler, CodeBody, Member, Component, ClassAttribute, Class}
use Rattle.classfile.specs.Methods.{code_of}
use Rattle.insn.specs.Decoding.{code_result}
use Rattle.printing.specs.CodeLines.{code_lines, fault_of}
use Rattle.printing.specs.Names.{hexadecimal, constant_text, class_text}

-- ---- members

abbrev pub member_line : List ℕ → List Entry → Member → List ℕ
member_line kind pool m =
    kind ++ (hexadecimal m.access_flags
    ++ (codes " " ++ (constant_text pool m.name ++ (codes " " ++ (constant_text pool m.descriptor ++ codes "\n")))))

abbrev pub field_line : List Entry → Member → List ℕ
field_line pool m = member_line (codes "field ") pool m

abbrev pub lines_of_code : List Entry → Option CodeBody → List ℕ
lines_of_code pool None = []
lines_of_code pool (Some body) = code_lines pool body

abbrev pub method_lines : List Entry → Member → List ℕ
method_lines pool m = member_line (codes "method ") pool m ++ lines_of_code pool (code_of m.attributes)

abbrev pub is_refused_code : Option CodeBody → Bool
is_refused_code None = false
is_refused_code (Some body) = is_some (fault_of (code_result body.code))

-- its code is refused
abbrev pub is_refused_method : Member → Bool
is_refused_method m = is_refused_code (code_of m.attributes)

-- ---- a class

abbrev pub class_line : Class → List ℕ
class_line c =
    codes "class " ++ (class_text c.constant_pool c.this_class
    ++ (codes " major " ++ (decimal c.major_version ++ (codes " minor "
    ++ (decimal c.minor_version ++ (codes " flags " ++ (hexadecimal c.access_flags ++ codes "\n")))))))

abbrev pub super_text : List Entry → ℕ → List ℕ
super_text pool index = if nat_eq index 0 then codes "none" else class_text pool index

abbrev pub super_line : Class → List ℕ
super_line c = codes "super " ++ (super_text c.constant_pool c.super_class ++ codes "\n")

abbrev pub interface_line : List Entry → ℕ → List ℕ
interface_line pool index = codes "interface " ++ (class_text pool index ++ codes "\n")

-- a component of a record (4.7.30)
abbrev pub component_line : List Entry → Component → List ℕ
component_line pool c = codes "component "
    ++ (constant_text pool c.name ++ (codes " " ++ (constant_text pool c.descriptor ++ codes "\n")))

abbrev pub component_lines : List Entry → ClassAttribute → List ℕ
component_lines pool attribute = flat_map (component_line pool) (components_of attribute)

-- a class that may extend a sealed one directly (4.7.31)
abbrev pub permits_line : List Entry → ℕ → List ℕ
permits_line pool index = codes "permits " ++ (class_text pool index ++ codes "\n")

abbrev pub permits_lines : List Entry → ClassAttribute → List ℕ
permits_lines pool attribute = flat_map (permits_line pool) (permitted_of attribute)

-- all components, and then all that is permitted
abbrev pub attribute_lines : List Entry → List ClassAttribute → List ℕ
attribute_lines pool attributes = flat_map (component_lines pool) attributes ++ flat_map (permits_lines pool) attributes

abbrev pub class_lines : Class → List ℕ
class_lines c =
    class_line c ++ (super_line c ++ (flat_map (interface_line c.constant_pool) c.interfaces
    ++ (attribute_lines c.constant_pool c.attributes
    ++ (flat_map (field_line c.constant_pool) c.fields ++ flat_map (method_lines c.constant_pool) c.methods))))

-- the code of a method is refused
abbrev pub has_refused : Class → Bool
has_refused c = list_any is_refused_method c.methods
