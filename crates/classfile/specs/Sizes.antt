-- How many bytes the parts of a class have, and whether each of its numbers, counts and lengths fits its field
-- (JVMS 4.1, 4.4 to 4.7): what must hold before it matters whether bytes spell the class.
use Rattle.std.specs.Prelude.{ℕ, ◌+◌, Bool, true, ◌&&◌, List, [], ◌∷◌, length, nat_lt}
use Rattle.std.specs.List.{list_all}
use Rattle.pool.specs.Entries.{Entry, Utf8, Integer, Float, Long, Double, Class as ClassEntry, String, Fieldref, Methodref, InterfaceMethodref, NameAndType, MethodHandle, MethodType, Dynamic, InvokeDynamic, Unusable}
use Rattle.classfile.specs.Values.{of_parts, of_numbers, raw, Handler, Nested, CodeBody, Attribute, Member, Component, ClassAttribute, Class}

-- numbers of two and of four bytes
abbrev pub is_u2 : ℕ → Bool
is_u2 n = nat_lt n 65536

abbrev pub is_u4 : ℕ → Bool
is_u4 n = nat_lt n 4294967296

-- the sum over a list
abbrev pub total : {V : Type 0} → (V → ℕ) → List V → ℕ
total f [] = 0
total f (x ∷ xs) = f x + total f xs

-- a table: its count and its items
abbrev pub table_fits : {V : Type 0} → (V → Bool) → List V → Bool
table_fits fits items = is_u2 (length items) && list_all fits items

abbrev pub table_size : {V : Type 0} → (V → ℕ) → List V → ℕ
table_size size items = 2 + total size items

-- ---- the constant pool: its count is one more than the number of its indices

abbrev pub entry_fits : Entry → Bool
entry_fits (Utf8 bytes) = is_u2 (length bytes)
entry_fits (Integer bits) = is_u4 bits
entry_fits (Float bits) = is_u4 bits
entry_fits (Long high low) = is_u4 high && is_u4 low
entry_fits (Double high low) = is_u4 high && is_u4 low
entry_fits (ClassEntry name) = is_u2 name
entry_fits (String text) = is_u2 text
entry_fits (Fieldref class name_and_type) = is_u2 class && is_u2 name_and_type
entry_fits (Methodref class name_and_type) = is_u2 class && is_u2 name_and_type
entry_fits (InterfaceMethodref class name_and_type) = is_u2 class && is_u2 name_and_type
entry_fits (NameAndType name descriptor) = is_u2 name && is_u2 descriptor
entry_fits (MethodHandle kind reference) = is_u2 reference
entry_fits (MethodType descriptor) = is_u2 descriptor
entry_fits (Dynamic bootstrap name_and_type) = is_u2 bootstrap && is_u2 name_and_type
entry_fits (InvokeDynamic bootstrap name_and_type) = is_u2 bootstrap && is_u2 name_and_type
entry_fits Unusable = true

abbrev pub entry_size : Entry → ℕ
entry_size (Utf8 bytes) = 1 + (2 + length bytes)
entry_size (Integer bits) = 5
entry_size (Float bits) = 5
entry_size (Long high low) = 9
entry_size (Double high low) = 9
entry_size (ClassEntry name) = 3
entry_size (String text) = 3
entry_size (Fieldref class name_and_type) = 5
entry_size (Methodref class name_and_type) = 5
entry_size (InterfaceMethodref class name_and_type) = 5
entry_size (NameAndType name descriptor) = 5
entry_size (MethodHandle kind reference) = 4
entry_size (MethodType descriptor) = 3
entry_size (Dynamic bootstrap name_and_type) = 5
entry_size (InvokeDynamic bootstrap name_and_type) = 5
entry_size Unusable = 0

abbrev pub pool_fits : List Entry → Bool
pool_fits entries = is_u2 (length entries + 1) && list_all entry_fits entries

abbrev pub pool_size : List Entry → ℕ
pool_size entries = 2 + total entry_size entries

-- ---- attributes: a name index, a length of four bytes and a body

abbrev pub handler_fits : Handler → Bool
handler_fits h = is_u2 h.start_pc && (is_u2 h.end_pc && (is_u2 h.handler_pc && is_u2 h.catch_type))

abbrev pub nested_fits : Nested → Bool
nested_fits (of_parts name body) = is_u2 name
nested_fits (of_numbers name numbers) = is_u2 name
nested_fits (raw name body) = is_u2 name

abbrev pub nested_size : Nested → ℕ
nested_size (of_parts name body) = 2 + (4 + length body)
nested_size (of_numbers name numbers) = 2 + (4 + length numbers.body)
nested_size (raw name body) = 2 + (4 + length body)

abbrev pub code_fits : CodeBody → Bool
code_fits c = (is_u2 c.max_stack && is_u2 c.max_locals)
    && (table_fits handler_fits c.exception_table && table_fits nested_fits c.attributes)

abbrev pub code_size : CodeBody → ℕ
code_size c = (2 + (2 + (4 + length c.code))) +
    (table_size (λ h. 8) c.exception_table + table_size nested_size c.attributes)

abbrev pub attribute_fits : Attribute → Bool
attribute_fits (of_parts name code) = is_u2 name && code_fits code
attribute_fits (of_numbers name numbers) = is_u2 name
attribute_fits (raw name body) = is_u2 name

abbrev pub attribute_size : Attribute → ℕ
attribute_size (of_parts name code) = 2 + (4 + code_size code)
attribute_size (of_numbers name numbers) = 2 + (4 + length numbers.body)
attribute_size (raw name body) = 2 + (4 + length body)

-- ---- members and the class

abbrev pub member_fits : Member → Bool
member_fits m = (is_u2 m.access_flags && (is_u2 m.name && is_u2 m.descriptor)) && table_fits attribute_fits m.attributes

abbrev pub member_size : Member → ℕ
member_size m = 6 + table_size attribute_size m.attributes

abbrev pub component_fits : Component → Bool
component_fits c = (is_u2 c.name && is_u2 c.descriptor) && table_fits attribute_fits c.attributes

abbrev pub component_size : Component → ℕ
component_size c = 4 + table_size attribute_size c.attributes

abbrev pub class_attribute_fits : ClassAttribute → Bool
class_attribute_fits (of_parts name components) = is_u2 name && table_fits component_fits components
class_attribute_fits (of_numbers name numbers) = is_u2 name
class_attribute_fits (raw name body) = is_u2 name

abbrev pub class_attribute_size : ClassAttribute → ℕ
class_attribute_size (of_parts name components) = 2 + (4 + table_size component_size components)
class_attribute_size (of_numbers name numbers) = 2 + (4 + length numbers.body)
class_attribute_size (raw name body) = 2 + (4 + length body)

abbrev pub class_fits : Class → Bool
class_fits c =
    (is_u2 c.minor_version && is_u2 c.major_version)
    && (pool_fits c.constant_pool
    && ((is_u2 c.access_flags && (is_u2 c.this_class && is_u2 c.super_class))
    && (table_fits is_u2 c.interfaces
    && (table_fits member_fits c.fields
    && (table_fits member_fits c.methods && table_fits class_attribute_fits c.attributes)))))

abbrev pub class_size : Class → ℕ
class_size c =
    8 + (pool_size c.constant_pool
    + (6 + (table_size (λ n. 2) c.interfaces
    + (table_size member_size c.fields
    + (table_size member_size c.methods + table_size class_attribute_size c.attributes)))))
