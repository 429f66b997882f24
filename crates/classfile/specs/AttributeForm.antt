-- The faults that attributes may have (JVMS 4.7, 4.7.3, 4.7.4): their names, and what Code attributes hold.
use Rattle.std.specs.Prelude.{Bool, true, false, ◌||◌, List, length, nat_eq, nat_lt, count_by}
use Rattle.std.specs.List.{list_any}
use Rattle.pool.specs.Entries.{Entry}
use Rattle.classfile.specs.declared.indices.ConstantKind.TheVariants as kinds
use Rattle.classfile.specs.Values.{AttributeOf, of_parts, of_numbers, raw, name_of, Handler, Nested, CodeBody, Attribute}
use Rattle.classfile.specs.Indices.{is_bad, is_bad_unless_zero, is_other}
use Rattle.classfile.specs.declared.location.Location.TheVariants as location
use Rattle.classfile.specs.declared.number_form.IndexRule.TheVariants as rules
use Rattle.classfile.specs.NumberForm.{on_numbers, numbers_break, numbers_stand_twice}

-- the body is read by its parts
abbrev pub is_of_parts : {A : Type 0} → AttributeOf A → Bool
is_of_parts (of_parts name body) = true
is_of_parts (of_numbers name numbers) = false
is_of_parts (raw name body) = false

-- the body is read by its parts, and these pass the test
abbrev pub on_body : {A : Type 0} → (A → Bool) → AttributeOf A → Bool
on_body test (of_parts name body) = test body
on_body test (of_numbers name numbers) = false
on_body test (raw name body) = false

-- more than one attribute is read by its parts: of the only kind that is, in this table
abbrev pub has_two : {A : Type 0} → List (AttributeOf A) → Bool
has_two attributes = nat_lt 1 (count_by is_of_parts attributes)

-- ---- any attribute

-- the index of its name breaks the rule, or one among its numbers does
unfoldable pub head_has_bad : {A : Type 0} → List Entry → AttributeOf A → Bool
head_has_bad pool attribute =
    is_bad pool (name_of attribute) || on_numbers (numbers_break pool rules.BadIndex) attribute

unfoldable pub head_has_other : {A : Type 0} → List Entry → AttributeOf A → Bool
head_has_other pool attribute =
    is_other pool kinds.Utf8 (name_of attribute) || on_numbers (numbers_break pool rules.WrongKind) attribute

-- ---- a Code attribute

-- what is caught is a class; 0 stands for everything
unfoldable pub handlers_have_bad : List Entry → List Handler → Bool
handlers_have_bad pool handlers = list_any (λ h. is_bad_unless_zero pool h.catch_type) handlers

unfoldable pub handlers_have_other : List Entry → List Handler → Bool
handlers_have_other pool handlers = list_any (λ h. is_other pool kinds.Class h.catch_type) handlers

unfoldable pub nested_have_bad : List Entry → List Nested → Bool
nested_have_bad pool attributes = list_any (head_has_bad pool) attributes

unfoldable pub nested_have_other : List Entry → List Nested → Bool
nested_have_other pool attributes = list_any (head_has_other pool) attributes

unfoldable pub code_has_bad : List Entry → CodeBody → Bool
code_has_bad pool code = handlers_have_bad pool code.exception_table || nested_have_bad pool code.attributes

unfoldable pub code_has_other : List Entry → CodeBody → Bool
code_has_other pool code = handlers_have_other pool code.exception_table || nested_have_other pool code.attributes

-- code_length is 1 to 65,535
abbrev pub has_bad_length : CodeBody → Bool
has_bad_length code = nat_eq (length code.code) 0 || nat_lt 65535 (length code.code)

-- at most one StackMapTable
unfoldable pub has_two_stack_maps : CodeBody → Bool
has_two_stack_maps code = has_two code.attributes

-- ---- the attributes of a class, field or method, and which rules they break there

unfoldable pub attribute_has_bad : List Entry → Attribute → Bool
attribute_has_bad pool attribute = head_has_bad pool attribute || on_body (code_has_bad pool) attribute

unfoldable pub attribute_has_other : List Entry → Attribute → Bool
attribute_has_other pool attribute = head_has_other pool attribute || on_body (code_has_other pool) attribute

unfoldable pub attributes_have_bad : List Entry → List Attribute → Bool
attributes_have_bad pool attributes = list_any (attribute_has_bad pool) attributes

unfoldable pub attributes_have_other : List Entry → List Attribute → Bool
attributes_have_other pool attributes = list_any (attribute_has_other pool) attributes

unfoldable pub have_bad_length : List Attribute → Bool
have_bad_length attributes = list_any (on_body has_bad_length) attributes

-- at most one Code attribute, and in each at most one StackMapTable
unfoldable pub code_stands_twice : List Attribute → Bool
code_stands_twice attributes = has_two attributes

unfoldable pub stack_map_stands_twice : List Attribute → Bool
stack_map_stands_twice attributes = list_any (on_body has_two_stack_maps) attributes

-- and at most one of each other kind of which there may be one
unfoldable pub have_twice : List Attribute → Bool
have_twice attributes = code_stands_twice attributes || stack_map_stands_twice attributes
    || numbers_stand_twice location.Method attributes
