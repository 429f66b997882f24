-- Worked examples of the tests of the form check, for the eye: of each a case that holds and one that does not. Each is
-- checked, and nothing stands on them.
use Rattle.std.proofs.Common.{◌≡◌, ℕ, Bool, true, false, List, [], ◌∷◌, replicate, codes, refl}
use Rattle.names.specs.Reading.{read_class, read_base, read_field, read_params, read_result, read_method, ends_class_name, field_answer, method_answer}
use Rattle.pool.specs.Entries as entries
use Rattle.pool.specs.Lookups.{entry_at, text_at, class_name_at, named, name_and_type_at}
use Rattle.classfile.specs.declared.indices.ConstantKind.TheVariants as kinds
use Rattle.classfile.specs.declared.location.Location.TheVariants as locations
use Rattle.classfile.specs.Layouts.{signature, permitted_subclasses}
use Rattle.classfile.specs.Values.{of_parts, of_numbers, raw, Handler, Nested, CodeBody, Attribute, Member, Component, ClassAttribute, Class}
use Rattle.classfile.specs.Indices.{is_of, is_bad, is_bad_unless_zero, is_other}
use Rattle.classfile.specs.Naming.{begins_with, is_array_name, is_class_name, is_unqualified_name, is_method_name, is_init, is_clinit, is_field_descriptor, is_method_descriptor, is_void_descriptor}
use Rattle.classfile.specs.Locations.{is_named, is_code, is_stack_map, is_record}
use Rattle.classfile.specs.Flags.{has, are_bad_class_flags, are_bad_field_flags, are_bad_method_flags}
use Rattle.classfile.specs.ConstantForm.{names_class, is_no_class_name, is_array_class, is_no_unqualified_name, is_no_descriptor, is_no_field_descriptor, is_no_method_descriptor, is_no_field, is_no_method, is_no_method_of_class, is_special, is_no_method_name, has_bad, has_other, texts_have_bad, texts_have_other}
use Rattle.classfile.specs.NumberForm.{numbers_break, has_this_layout, layout_stands_twice, numbers_stand_twice}
use Rattle.classfile.specs.AttributeForm.{handlers_have_bad, handlers_have_other, nested_have_bad, nested_have_other, head_has_bad, head_has_other, code_has_bad, code_has_other, attribute_has_bad, attribute_has_other, attributes_have_bad, attributes_have_other, have_bad_length, has_two_stack_maps, code_stands_twice, stack_map_stands_twice, have_twice}
use Rattle.classfile.specs.RecordForm.{component_has_bad, component_has_other, component_has_twice, components_have_bad, components_have_other, components_have_twice, class_attribute_has_bad, class_attribute_has_other, class_attributes_have_bad, class_attributes_have_other, record_stands_twice, records_have_twice, class_attributes_have_twice}
use Rattle.classfile.specs.MemberForm.{member_has_bad, member_has_other, may_name_method, is_bad_method_name, is_badly_described, is_instance_initializer, is_class_initializer, is_badly_flagged, has_body, has_code}
use Rattle.classfile.specs.ClassForm.{is_object, leads_to_object, leads_elsewhere, interfaces_have_bad, interfaces_have_other, interfaces_have_array, class_has_bad, class_has_other, class_has_array, has_bad_super}

-- so many tests, of each a case that holds and one that does not
abbrev told : ℕ → List (Bool × Bool)
told n = replicate n (true, false)

-- #1 Class A, #3 Class [I, #5 Class java/lang/Object, #7 A:I, #9 <init>:()V, #13 <clinit>:()I, #15 <init>:()I, #18 no
-- name
abbrev pool : List entries.Entry
pool =
    entries.Class 2 ∷ entries.Utf8 (codes "A") ∷ entries.Class 4 ∷ entries.Utf8 (codes "[I") ∷ entries.Class 6 ∷ entries.Utf8 (codes "java/lang/Object")
    ∷ entries.NameAndType 2 8 ∷ entries.Utf8 (codes "I") ∷ entries.NameAndType 10 11 ∷ entries.Utf8 (codes "<init>") ∷ entries.Utf8 (codes "()V")
    ∷ entries.Utf8 (codes "<clinit>") ∷ entries.NameAndType 12 14 ∷ entries.Utf8 (codes "()I") ∷ entries.NameAndType 10 14 ∷ entries.Utf8 (codes "Code")
    ∷ entries.Utf8 (codes "StackMapTable") ∷ entries.Utf8 (codes "a;b") ∷ []

-- ---- indices, names and places of attributes

indices :
    ((is_of kinds.Utf8 (entries.Utf8 []), is_of kinds.Class (entries.Utf8 []))
    ∷ (is_of kinds.Reference (entries.Methodref 1 7), is_of kinds.Reference (entries.Class 2))
    ∷ (is_bad pool 19, is_bad pool 18)
    ∷ (is_bad pool 0, is_bad pool 1)
    ∷ (is_bad_unless_zero pool 19, is_bad_unless_zero pool 0)
    ∷ (is_other pool kinds.Class 2, is_other pool kinds.Utf8 2)
    ∷ (is_other pool kinds.NameAndType 1, is_other pool kinds.NameAndType 0)
    ∷ []) ≡ told 7
unfolding is_bad is_other entry_at
indices = refl

names :
    ((begins_with 65 (codes "A"), begins_with 65 [])
    ∷ (begins_with 65 (codes "A"), begins_with 0 (codes "A"))
    ∷ (is_array_name (codes "[I"), is_array_name (codes "I"))
    ∷ (is_class_name (codes "a/A"), is_class_name (codes "a/"))
    ∷ (is_unqualified_name (codes "A"), is_unqualified_name (codes "a/A"))
    ∷ (is_method_name (codes "a"), is_method_name (codes "a<"))
    ∷ (is_init (codes "<init>"), is_init (codes "<clinit>"))
    ∷ (is_clinit (codes "<clinit>"), is_clinit (codes "<init>"))
    ∷ (is_field_descriptor (codes "[LA;"), is_field_descriptor (codes "()V"))
    ∷ (is_method_descriptor true (codes "(I[LA;)V"), is_method_descriptor true (codes "I"))
    ∷ (is_void_descriptor false (codes "()V"), is_void_descriptor false (codes "()I"))
    ∷ []) ≡ told 11
unfolding ends_class_name read_class read_base read_field read_params read_result read_method field_answer method_answer
names = refl

places :
    ((is_named pool 16 (codes "Code"), is_named pool 16 (codes "Cod"))
    ∷ (is_named pool 16 (codes "Code"), is_named pool 0 (codes "Code"))
    ∷ (is_code pool locations.Method 16, is_code pool (locations.Class 52) 16)
    ∷ (is_code pool locations.Method 16, is_code pool locations.Method 17)
    ∷ (is_stack_map pool locations.Code 17, is_stack_map pool (locations.Class 52) 17)
    ∷ (is_stack_map pool locations.Code 17, is_stack_map pool locations.Code 16)
    ∷ []) ≡ told 6
unfolding text_at entry_at
places = refl

-- ---- flags

flags :
    ((has 0x0208 0x0008, has 0x0200 0x0008)
    ∷ (are_bad_class_flags 52 0x0610, are_bad_class_flags 52 0x0601)
    ∷ (are_bad_class_flags 52 0x0410, are_bad_class_flags 52 0x0400)
    ∷ (are_bad_class_flags 50 0x0200, are_bad_class_flags 49 0x0200)
    ∷ (are_bad_class_flags 52 0x8000, are_bad_class_flags 52 0x4031)
    ∷ (are_bad_field_flags 0x0003, are_bad_field_flags 0x0001)
    ∷ (are_bad_field_flags 0x0050, are_bad_field_flags 0x0012)
    ∷ (are_bad_method_flags false false 0x0006, are_bad_method_flags false false 0x0004)
    ∷ (are_bad_method_flags false false 0x0408, are_bad_method_flags false false 0x0401)
    ∷ (are_bad_method_flags true false 0x0008, are_bad_method_flags false false 0x0008)
    ∷ (are_bad_method_flags false true 0x0000, are_bad_method_flags false true 0x000b)
    ∷ []) ≡ told 11
unfolding has are_bad_class_flags are_bad_field_flags are_bad_method_flags
flags = refl

-- ---- constants

constants :
    ((names_class (codes "[I"), names_class (codes "[A"))
    ∷ (is_no_class_name pool 18, is_no_class_name pool 4)
    ∷ (is_array_class pool 3, is_array_class pool 1)
    ∷ (is_no_unqualified_name pool 18, is_no_unqualified_name pool 2)
    ∷ (is_no_descriptor pool 2, is_no_descriptor pool 8)
    ∷ (is_no_field_descriptor pool 11, is_no_field_descriptor pool 8)
    ∷ (is_no_method_descriptor pool 8, is_no_method_descriptor pool 11)
    ∷ (is_no_field pool 9, is_no_field pool 7)
    ∷ (is_no_method pool 7, is_no_method pool 9)
    ∷ (is_no_method_of_class pool 15, is_no_method_of_class pool 9)
    ∷ (is_special pool 13, is_special pool 9)
    ∷ (is_no_method_name pool 9, is_no_method_name pool 7)
    ∷ (has_bad pool 0 7, has_bad pool 1 7)
    ∷ (has_bad pool 1 0, has_bad pool 1 7)
    ∷ (has_other pool 7 1, has_other pool 1 7)
    ∷ (has_other pool 7 7, has_other pool 0 7)
    ∷ (has_other pool 1 1, has_other pool 1 0)
    ∷ (texts_have_bad pool 2 0, texts_have_bad pool 2 8)
    ∷ (texts_have_bad pool 0 8, texts_have_bad pool 2 8)
    ∷ (texts_have_other pool 1 1, texts_have_other pool 2 8)
    ∷ (texts_have_other pool 2 1, texts_have_other pool 2 0)
    ∷ (texts_have_other pool 1 8, texts_have_other pool 0 8)
    ∷ []) ≡ told 22
unfolding is_no_class_name is_array_class is_no_unqualified_name is_no_descriptor is_no_field_descriptor is_no_method_descriptor is_no_field is_no_method is_no_method_of_class is_special is_no_method_name has_bad has_other texts_have_bad texts_have_other is_bad is_other entry_at text_at class_name_at named name_and_type_at ends_class_name read_class read_base read_field read_params read_result read_method field_answer method_answer
constants = refl

-- ---- attributes

abbrev catching : ℕ → List Handler
catching index = record { start_pc = 0; end_pc = 1; handler_pc = 0; catch_type = index } ∷ []

abbrev body_with : List ℕ → List Handler → List Nested → CodeBody
body_with code handlers attributes = record { max_stack = 0; max_locals = 0; code = code; exception_table = handlers; attributes = attributes }

abbrev body : List Handler → List Nested → CodeBody
body = body_with (177 ∷ [])

abbrev code : ℕ → List Handler → List Nested → Attribute
code name handlers attributes = of_parts name (body handlers attributes)

abbrev stack_map : ℕ → Nested
stack_map name = of_parts name []

attributes :
    ((handlers_have_bad pool (catching 19), handlers_have_bad pool (catching 0))
    ∷ (handlers_have_other pool (catching 2), handlers_have_other pool (catching 1))
    ∷ (nested_have_bad pool (stack_map 0 ∷ []), nested_have_bad pool (stack_map 17 ∷ []))
    ∷ (nested_have_other pool (stack_map 1 ∷ []), nested_have_other pool (stack_map 17 ∷ []))
    ∷ (code_has_bad pool (body (catching 19) []), code_has_bad pool (body (catching 1) []))
    ∷ (code_has_other pool (body (catching 2) []), code_has_other pool (body (catching 1) []))
    ∷ (attribute_has_bad pool (raw 0 []), attribute_has_bad pool (raw 2 []))
    ∷ (attribute_has_other pool (raw 1 []), attribute_has_other pool (raw 2 []))
    ∷ (attributes_have_bad pool (code 16 (catching 19) [] ∷ []), attributes_have_bad pool (code 16 [] [] ∷ []))
    ∷ (attributes_have_other pool (code 16 (catching 2) [] ∷ []), attributes_have_other pool (code 16 [] [] ∷ []))
    ∷ (has_code (raw 2 [] ∷ code 16 [] [] ∷ []), has_code (raw 16 [] ∷ []))
    ∷ (have_bad_length (of_parts 16 (body_with [] [] []) ∷ []), have_bad_length (code 16 [] [] ∷ []))
    ∷ (has_two_stack_maps (body [] (stack_map 17 ∷ stack_map 17 ∷ [])), has_two_stack_maps (body [] (stack_map 17 ∷ raw 2 [] ∷ [])))
    ∷ (stack_map_stands_twice (code 16 [] (stack_map 17 ∷ stack_map 17 ∷ []) ∷ []), stack_map_stands_twice (code 16 [] (stack_map 17 ∷ []) ∷ []))
    ∷ (have_twice (code 16 [] [] ∷ code 16 [] [] ∷ []), have_twice (code 16 [] [] ∷ raw 16 [] ∷ []))
    ∷ []) ≡ told 15
unfolding handlers_have_bad handlers_have_other nested_have_bad nested_have_other code_has_bad code_has_other attribute_has_bad attribute_has_other attributes_have_bad attributes_have_other has_code have_bad_length has_two_stack_maps stack_map_stands_twice code_stands_twice have_twice head_has_bad head_has_other numbers_break has_this_layout layout_stands_twice numbers_stand_twice is_bad is_other entry_at text_at
attributes = refl

-- ---- members

abbrev member : (access_flags name descriptor : ℕ) → Member
member access_flags name descriptor = record { access_flags = access_flags; name = name; descriptor = descriptor; attributes = [] }

members :
    ((member_has_bad pool (member 0 0 8), member_has_bad pool (member 0 2 8))
    ∷ (member_has_other pool (member 0 1 8), member_has_other pool (member 0 2 8))
    ∷ (may_name_method false (codes "<init>"), may_name_method true (codes "<init>"))
    ∷ (may_name_method true (codes "<clinit>"), may_name_method true (codes "<a>"))
    ∷ (is_bad_method_name pool true 10, is_bad_method_name pool false 10)
    ∷ (is_bad_method_name pool true 10, is_bad_method_name pool true 0)
    ∷ (is_bad_method_name pool false 18, is_bad_method_name pool true 12)
    ∷ (is_badly_described pool (member 0 10 14), is_badly_described pool (member 0 10 11))
    ∷ (is_instance_initializer pool (member 0 10 11), is_instance_initializer pool (member 0 12 11))
    ∷ (is_class_initializer pool (member 0 12 11), is_class_initializer pool (member 0 10 11))
    ∷ (is_badly_flagged pool (member 0x0008 10 11), is_badly_flagged pool (member 0x0008 12 11))
    ∷ (has_body pool (member 0x0100 12 11), has_body pool (member 0x0100 2 11))
    ∷ []) ≡ told 12
unfolding member_has_bad member_has_other is_bad_method_name is_badly_described is_instance_initializer is_class_initializer is_badly_flagged has_body texts_have_bad texts_have_other attributes_have_bad attributes_have_other head_has_bad head_has_other numbers_break is_bad is_other entry_at text_at named has are_bad_method_flags read_class read_base read_field read_params read_result read_method field_answer method_answer
members = refl

-- ---- records and sealed classes

-- #1 the name of Record, #2 and #3 a name and a descriptor, #4 that of Signature, #5 a class, #6 that of
-- PermittedSubclasses
abbrev names_of_attributes : List entries.Entry
names_of_attributes =
    entries.Utf8 (codes "Record") ∷ entries.Utf8 (codes "x") ∷ entries.Utf8 (codes "I") ∷ entries.Utf8 (codes "Signature") ∷ entries.Class 2
    ∷ entries.Utf8 (codes "PermittedSubclasses") ∷ []

abbrev component : (name : ℕ) → List Attribute → Component
component name attributes = record { name = name; descriptor = 3; attributes = attributes }

abbrev recorded : List Component → ClassAttribute
recorded components = of_parts 1 components

abbrev signed : (text : ℕ) → Attribute
signed text = of_numbers 4 (record { layout = signature; body = 0 ∷ text ∷ [] })

abbrev permitting : (class : ℕ) → ClassAttribute
permitting class = of_numbers 6 (record { layout = permitted_subclasses; body = 0 ∷ 1 ∷ 0 ∷ class ∷ [] })

records :
    ((is_record names_of_attributes (locations.Class 60) 1, is_record names_of_attributes (locations.Class 59) 1)
    ∷ (is_record names_of_attributes (locations.Class 61) 1, is_record names_of_attributes locations.Method 1)
    ∷ (component_has_bad names_of_attributes (component 0 []), component_has_bad names_of_attributes (component 2 []))
    ∷ (component_has_bad names_of_attributes (component 2 (signed 9 ∷ [])), component_has_bad names_of_attributes (component 2 (signed 3 ∷ [])))
    ∷ (component_has_other names_of_attributes (component 5 []), component_has_other names_of_attributes (component 2 []))
    ∷ (component_has_twice (component 2 (signed 3 ∷ signed 3 ∷ [])), component_has_twice (component 2 (signed 3 ∷ [])))
    ∷ (class_attributes_have_bad names_of_attributes (recorded (component 0 [] ∷ []) ∷ []), class_attributes_have_bad names_of_attributes (recorded [] ∷ []))
    ∷ (class_attributes_have_bad names_of_attributes (permitting 0 ∷ []), class_attributes_have_bad names_of_attributes (raw 6 (0 ∷ 1 ∷ 0 ∷ 0 ∷ []) ∷ []))
    ∷ (class_attributes_have_other names_of_attributes (recorded (component 5 [] ∷ []) ∷ []), class_attributes_have_other names_of_attributes (recorded [] ∷ []))
    ∷ (class_attributes_have_other names_of_attributes (permitting 2 ∷ []), class_attributes_have_other names_of_attributes (permitting 5 ∷ []))
    ∷ (class_attributes_have_twice (locations.Class 60) (recorded [] ∷ recorded [] ∷ []), class_attributes_have_twice (locations.Class 60) (recorded (component 2 (signed 3 ∷ []) ∷ component 2 (signed 3 ∷ []) ∷ []) ∷ []))
    ∷ (class_attributes_have_twice (locations.Class 60) (recorded (component 2 (signed 3 ∷ signed 3 ∷ []) ∷ []) ∷ []), class_attributes_have_twice (locations.Class 60) (recorded [] ∷ permitting 5 ∷ []))
    ∷ (class_attributes_have_twice (locations.Class 61) (permitting 5 ∷ permitting 5 ∷ []), class_attributes_have_twice (locations.Class 60) (raw 6 [] ∷ raw 6 [] ∷ []))
    ∷ []) ≡ told 13
unfolding component_has_bad component_has_other component_has_twice components_have_bad components_have_other components_have_twice class_attribute_has_bad class_attribute_has_other class_attributes_have_bad class_attributes_have_other record_stands_twice records_have_twice class_attributes_have_twice texts_have_bad texts_have_other attribute_has_bad attribute_has_other attributes_have_bad attributes_have_other head_has_bad head_has_other numbers_break has_this_layout layout_stands_twice numbers_stand_twice is_bad is_other entry_at text_at
records = refl

-- ---- the class itself

abbrev class : (access_flags this_class super_class : ℕ) → List ℕ → Class
class access_flags this_class super_class interfaces = record {
  release = false;
  minor_version = 0;
  major_version = 52;
  constant_pool = pool;
  access_flags = access_flags;
  this_class = this_class;
  super_class = super_class;
  interfaces = interfaces;
  fields = [];
  methods = [];
  attributes = [];
}

classes :
    ((is_object (codes "java/lang/Object"), is_object (codes "A"))
    ∷ (leads_to_object pool 5, leads_to_object pool 1)
    ∷ (leads_to_object pool 5, leads_to_object pool 0)
    ∷ (leads_elsewhere pool 1, leads_elsewhere pool 5)
    ∷ (leads_elsewhere pool 1, leads_elsewhere pool 0)
    ∷ (interfaces_have_bad pool (1 ∷ 0 ∷ []), interfaces_have_bad pool (1 ∷ []))
    ∷ (interfaces_have_other pool (1 ∷ 2 ∷ []), interfaces_have_other pool (1 ∷ []))
    ∷ (interfaces_have_array pool (1 ∷ 3 ∷ []), interfaces_have_array pool (1 ∷ []))
    ∷ (class_has_bad (class 0 0 5 []), class_has_bad (class 0 5 0 []))
    ∷ (class_has_other (class 0 1 2 []), class_has_other (class 0 1 5 []))
    ∷ (class_has_array (class 0 1 3 []), class_has_array (class 0 1 5 []))
    ∷ (has_bad_super (class 0 1 0 []), has_bad_super (class 0 1 5 []))
    ∷ (has_bad_super (class 0 5 1 []), has_bad_super (class 0 5 0 []))
    ∷ (has_bad_super (class 0x0600 1 1 []), has_bad_super (class 0x0600 1 5 []))
    ∷ []) ≡ told 14
unfolding leads_to_object leads_elsewhere interfaces_have_bad interfaces_have_other interfaces_have_array class_has_bad class_has_other class_has_array has_bad_super class_attributes_have_bad class_attributes_have_other is_array_class is_bad is_other has entry_at text_at class_name_at
classes = refl
