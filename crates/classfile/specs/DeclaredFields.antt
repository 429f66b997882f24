-- Whether the field that a constant names is among those that the class declares itself (JVMS 4.4.2, 4.5).
use Rattle.std.specs.Prelude.{ℕ, nat_eq, Bool, false, List, Option, Some, None, map}
use Rattle.std.specs.Option.{option_and_then}
use Rattle.pool.specs.Entries.{Entry, Fieldref, NameAndType}
use Rattle.pool.specs.Lookups.{Named, named, entry_at, field_ref_at}
use Rattle.pool.specs.ConstantMeanings.{constant_at}
use Rattle.classfile.specs.declared.class_file.ClassFile.{ClassFile}
use Rattle.classfile.specs.Indices.{on_found}
use Rattle.classfile.specs.Methods.{is_declared, declared_fields}
use Rattle.classfile.specs.Views.{member_view}

-- the fields of a class file, by their names and descriptors
abbrev pub fields_of : ClassFile → List Named
fields_of c = declared_fields c.constant_pool (map member_view c.fields.items)

-- the class declares the field of the name and the descriptor at these indices
abbrev pub has_named : ClassFile → ℕ → ℕ → Bool
has_named c name descriptor =
    on_found (λ x. is_declared (fields_of c) x.name x.descriptor) (named c.constant_pool name descriptor)

-- a Fieldref stands at this index, it leads to texts, and the class declares a field of its name and its descriptor
abbrev pub declares : ClassFile → ℕ → Bool
declares c field = on_found (λ f. is_declared (fields_of c) f.name f.descriptor) (field_ref_at c.constant_pool field)

-- the entry is a Fieldref of the Class at this index
abbrev pub is_field_of : ℕ → Entry → Bool
is_field_of index (Fieldref class name_and_type) = nat_eq class index
is_field_of index _ = false

-- a Fieldref stands at this index, with the Class by which the class file names its own class
abbrev pub names_class : ClassFile → ℕ → Bool
names_class c field = on_found (is_field_of c.this_class) (entry_at c.constant_pool field)

-- ---- the indices of the texts to which a Fieldref leads

abbrev pub type_index : Entry → Option ℕ
type_index (Fieldref class name_and_type) = Some name_and_type
type_index _ = None

abbrev pub both_indices : Entry → Option (ℕ × ℕ)
both_indices (NameAndType name descriptor) = Some (name, descriptor)
both_indices _ = None

-- of its name and of its descriptor
abbrev pub text_indices : List Entry → ℕ → Option (ℕ × ℕ)
text_indices pool field =
    option_and_then (λ i. option_and_then both_indices (constant_at pool i))
    (option_and_then type_index (constant_at pool field))
