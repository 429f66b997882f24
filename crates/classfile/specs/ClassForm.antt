-- The faults that a class itself may have (JVMS 4.1): its names, its flags, its superclass and its own attributes.
use Rattle.std.specs.Prelude.{ℕ, Bool, not, ◌&&◌, ◌||◌, List, [], ◌∷◌, nat_eq}
use Rattle.std.specs.List.{list_any}
use Rattle.std.specs.Str.{bytes_eq}
use Rattle.names.specs.StandardNames.{object_name}
use Rattle.pool.specs.Entries.{Entry}
use Rattle.classfile.specs.declared.form_fault.FormRule.TheVariants.{BadIndex, WrongKind, BadName, BadFlags, BadSuper, AttributeTwice}
use Rattle.classfile.specs.declared.indices.ConstantKind.TheVariants as kinds
use Rattle.classfile.specs.Values.{Class}
use Rattle.classfile.specs.Conditions.{Condition}
use Rattle.classfile.specs.Indices.{is_bad, is_bad_unless_zero, is_other, on_class_name}
use Rattle.classfile.specs.ConstantForm.{is_array_class}
use Rattle.classfile.specs.Flags.{has, INTERFACE, are_bad_class_flags}
use Rattle.classfile.specs.declared.location.Location.TheVariants as location
use Rattle.classfile.specs.RecordForm.{class_attributes_have_bad, class_attributes_have_other, class_attributes_have_twice}

-- the name of the class above all others
abbrev pub is_object : List ℕ → Bool
is_object name = bytes_eq name object_name

unfoldable pub leads_to_object : List Entry → ℕ → Bool
leads_to_object pool index = on_class_name pool index is_object

unfoldable pub leads_elsewhere : List Entry → ℕ → Bool
leads_elsewhere pool index = on_class_name pool index (λ n. not (is_object n))

-- ---- indices

unfoldable pub interfaces_have_bad : List Entry → List ℕ → Bool
interfaces_have_bad pool interfaces = list_any (is_bad pool) interfaces

unfoldable pub interfaces_have_other : List Entry → List ℕ → Bool
interfaces_have_other pool interfaces = list_any (is_other pool kinds.Class) interfaces

unfoldable pub interfaces_have_array : List Entry → List ℕ → Bool
interfaces_have_array pool interfaces = list_any (is_array_class pool) interfaces

-- 0 stands for no superclass
unfoldable pub class_has_bad : Class → Bool
class_has_bad c =
    is_bad c.constant_pool c.this_class || is_bad_unless_zero c.constant_pool c.super_class
    || interfaces_have_bad c.constant_pool c.interfaces || class_attributes_have_bad c.constant_pool c.attributes

unfoldable pub class_has_other : Class → Bool
class_has_other c =
    is_other c.constant_pool kinds.Class c.this_class || is_other c.constant_pool kinds.Class c.super_class
    || interfaces_have_other c.constant_pool c.interfaces || class_attributes_have_other c.constant_pool c.attributes

-- the class, its superclass or one of its interfaces is an array
unfoldable pub class_has_array : Class → Bool
class_has_array c =
    is_array_class c.constant_pool c.this_class || is_array_class c.constant_pool c.super_class
    || interfaces_have_array c.constant_pool c.interfaces

-- ---- the superclass

-- Object alone has none
abbrev pub lacks_super : Class → Bool
lacks_super c = nat_eq c.super_class 0 && leads_elsewhere c.constant_pool c.this_class

abbrev pub is_object_below : Class → Bool
is_object_below c = not (nat_eq c.super_class 0) && leads_to_object c.constant_pool c.this_class

-- that of an interface is Object
abbrev pub is_interface_elsewhere : Class → Bool
is_interface_elsewhere c =
    has c.access_flags INTERFACE && (nat_eq c.super_class 0 || leads_elsewhere c.constant_pool c.super_class)

unfoldable pub has_bad_super : Class → Bool
has_bad_super c = lacks_super c || is_object_below c || is_interface_elsewhere c

abbrev pub class_conditions : Class → List Condition
class_conditions c =
    (BadIndex, class_has_bad c)
    ∷ (WrongKind, class_has_other c)
    ∷ (BadName, class_has_array c)
    ∷ (BadFlags, are_bad_class_flags c.major_version c.access_flags)
    ∷ (BadSuper, has_bad_super c)
    ∷ (AttributeTwice, class_attributes_have_twice (location.Class c.major_version) c.attributes)
    ∷ []
