-- Method handles that lead to what their kind asks, names of methods, and bootstrap methods (JVMS 4.4.6, 4.4.8,
-- 4.4.10).
use Rattle.std.specs.Prelude.{ℕ, Bool, true, false, not, ◌&&◌, ◌||◌, nat_lt, List, [], ◌∷◌, if◌then◌else◌, Option, Some, None}
use Rattle.std.specs.Option.{option_map_or}
use Rattle.pool.specs.declared.kind.ReferenceKind.{ReferenceKind}
use Rattle.pool.specs.declared.kind.ReferenceKind.TheVariants.{GetField, GetStatic, PutField, PutStatic, InvokeVirtual, InvokeStatic, InvokeSpecial, NewInvokeSpecial, InvokeInterface}
use Rattle.pool.specs.Entries.{Entry, Fieldref, Methodref, InterfaceMethodref, NameAndType, MethodHandle, Dynamic, InvokeDynamic}
use Rattle.pool.specs.Lookups.{Named, entry_at, named}
use Rattle.classfile.specs.declared.form_fault.FormRule.TheVariants.{WrongKind, BadName, BadBootstrap}
use Rattle.classfile.specs.Bootstraps.{bootstraps_of, has_bootstrap}
use Rattle.classfile.specs.Conditions.{Condition}
use Rattle.classfile.specs.Indices.{on_found, on_name_and_type}
use Rattle.classfile.specs.Naming.{begins_with, is_method_name, is_init}
use Rattle.classfile.specs.Values.{Class}

-- the first byte of a method's descriptor, and of no field's
abbrev pub parenthesis : ℕ
parenthesis = 0x28

-- a method is named otherwise than methods are, and is no instance initialization method (4.4.6)
abbrev pub misnames_method : Named → Bool
misnames_method x = begins_with parenthesis x.descriptor && not (is_init x.name || is_method_name x.name)

unfoldable pub is_misnamed : List Entry → ℕ → ℕ → Bool
is_misnamed pool name descriptor = on_found misnames_method (named pool name descriptor)

-- the kinds that lead to a field (4.4.8)
abbrev pub is_field_kind : ReferenceKind → Bool
is_field_kind GetField = true
is_field_kind GetStatic = true
is_field_kind PutField = true
is_field_kind PutStatic = true
is_field_kind _ = false

-- the kinds that lead to a method of a class
abbrev pub is_method_kind : ReferenceKind → Bool
is_method_kind InvokeVirtual = true
is_method_kind InvokeStatic = true
is_method_kind InvokeSpecial = true
is_method_kind NewInvokeSpecial = true
is_method_kind _ = false

-- the kinds that lead to a method of an interface, two of them from major version 52 on
abbrev pub is_interface_kind : ℕ → ReferenceKind → Bool
is_interface_kind major InvokeInterface = true
is_interface_kind major InvokeStatic = nat_lt 51 major
is_interface_kind major InvokeSpecial = nat_lt 51 major
is_interface_kind major _ = false

abbrev pub leads_as : ℕ → ReferenceKind → Entry → Bool
leads_as major kind (Fieldref class name_and_type) = is_field_kind kind
leads_as major kind (Methodref class name_and_type) = is_method_kind kind
leads_as major kind (InterfaceMethodref class name_and_type) = is_interface_kind major kind
leads_as major kind _ = true

unfoldable pub leads_otherwise : ℕ → List Entry → ReferenceKind → ℕ → Bool
leads_otherwise major pool kind reference = on_found (λ e. not (leads_as major kind e)) (entry_at pool reference)

-- a handle that creates an object leads to an instance initialization method, and no other does
abbrev pub creates : ReferenceKind → Bool
creates NewInvokeSpecial = true
creates _ = false

abbrev pub is_other_method : ReferenceKind → Named → Bool
is_other_method kind x = if is_init x.name then not (creates kind) else creates kind

-- the name and type of the method that an entry is
abbrev pub method_named : Entry → Option ℕ
method_named (Methodref class name_and_type) = Some name_and_type
method_named (InterfaceMethodref class name_and_type) = Some name_and_type
method_named _ = None

abbrev pub has_other_method : List Entry → ReferenceKind → Entry → Bool
has_other_method pool kind e =
    option_map_or (λ index. on_name_and_type pool index (is_other_method kind)) (method_named e) false

unfoldable pub leads_to_other_method : List Entry → ReferenceKind → ℕ → Bool
leads_to_other_method pool kind reference = on_found (has_other_method pool kind) (entry_at pool reference)

-- ---- each kind of entry

abbrev pub handle_conditions : ℕ → List Entry → ReferenceKind → ℕ → List Condition
handle_conditions major pool kind reference =
    (WrongKind, leads_otherwise major pool kind reference)
    ∷ (BadName, leads_to_other_method pool kind reference)
    ∷ []

-- the class has no bootstrap method of this number, or one that may not be used (4.4.10, 4.7.23)
unfoldable pub lacks_bootstrap : Class → ℕ → Bool
lacks_bootstrap c number = not (has_bootstrap c.constant_pool (bootstraps_of c) number)

unfoldable pub constant_conditions : Class → Entry → List Condition
constant_conditions c (NameAndType name descriptor) = (BadName, is_misnamed c.constant_pool name descriptor) ∷ []
constant_conditions c (MethodHandle kind reference) =
    handle_conditions c.major_version c.constant_pool kind reference
constant_conditions c (Dynamic bootstrap named) = (BadBootstrap, lacks_bootstrap c bootstrap) ∷ []
constant_conditions c (InvokeDynamic bootstrap named) = (BadBootstrap, lacks_bootstrap c bootstrap) ∷ []
constant_conditions c _ = []
