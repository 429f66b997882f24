-- The meaning of constants to an instruction that names them (JVMS 4.4.1, 4.4.2, 4.4.10): a reference type, a field or
-- a method with its types, a constant that is computed, or a call site. None where the constant is of another kind, or
-- its texts are not of their forms.
use Rattle.std.specs.Prelude.{ℕ, Bool, false, List, Option, Some, None, Result, Ok, Err}
use Rattle.std.specs.Option.{option_and_then}
use Rattle.names.specs.Descriptors.{FieldDescriptor, MethodDescriptor}
use Rattle.names.specs.ReferenceTypes.{ReferenceType, class_type, reference_type}
use Rattle.names.specs.Reading.{field_answer, method_answer}
use Rattle.pool.specs.Entries.{Entry}
use Rattle.pool.specs.Lookups.{entry_at, class_name_at, Named, FieldOf, field_ref_at, MethodOf, method_ref_at, dynamic_at, invoke_dynamic_at}

-- what was found, if anything was
abbrev pub found : {A E : Type 0} → Result A E → Option A
found (Ok a) = Some a
found (Err e) = None

abbrev pub constant_at : List Entry → ℕ → Option Entry
constant_at pool index = found (entry_at pool index)

-- ---- a Class

abbrev pub class_at : List Entry → ℕ → Option ReferenceType
class_at pool index = option_and_then reference_type (found (class_name_at pool index))

-- ---- a Fieldref

pub record FieldConstant : Type 0 where
  pub class : List ℕ
  pub name : List ℕ
  pub descriptor : List ℕ
  pub type : FieldDescriptor

-- a field of a class, and of no array
abbrev pub field_of_class : FieldOf → Option ReferenceType → Option FieldDescriptor → Option FieldConstant
field_of_class f (Some (class_type name)) (Some type) =
    Some (record { class = name; name = f.name; descriptor = f.descriptor; type = type })
field_of_class f _ _ = None

abbrev pub field_constant : FieldOf → Option FieldConstant
field_constant f = field_of_class f (reference_type f.class) (found (field_answer f.descriptor))

abbrev pub field_at : List Entry → ℕ → Option FieldConstant
field_at pool index = option_and_then field_constant (found (field_ref_at pool index))

-- ---- a Methodref or an InterfaceMethodref

pub record MethodConstant : Type 0 where
  -- the constant is an InterfaceMethodref
  pub interface : Bool
  pub class : ReferenceType
  pub name : List ℕ
  pub descriptor : List ℕ
  pub type : MethodDescriptor

abbrev pub method_of_class : MethodOf → Option ReferenceType → Option MethodDescriptor → Option MethodConstant
method_of_class m (Some class) (Some type) =
    Some (record { interface = m.interface; class = class; name = m.name; descriptor = m.descriptor; type = type })
method_of_class m _ _ = None

-- the descriptor is measured without a receiver
abbrev pub method_constant : MethodOf → Option MethodConstant
method_constant m = method_of_class m (reference_type m.class) (found (method_answer false m.descriptor))

abbrev pub method_at : List Entry → ℕ → Option MethodConstant
method_at pool index = option_and_then method_constant (found (method_ref_at pool index))

-- ---- a Dynamic: the type of the constant

abbrev pub dynamic_type : Named → Option FieldDescriptor
dynamic_type n = found (field_answer n.descriptor)

abbrev pub dynamic_type_at : List Entry → ℕ → Option FieldDescriptor
dynamic_type_at pool index = option_and_then dynamic_type (found (dynamic_at pool index))

-- ---- an InvokeDynamic

-- a call that has no receiver
pub record CallSite : Type 0 where
  pub name : List ℕ
  pub type : MethodDescriptor

abbrev pub site_with : List ℕ → Option MethodDescriptor → Option CallSite
site_with name (Some type) = Some (record { name = name; type = type })
site_with name None = None

abbrev pub call_site : Named → Option CallSite
call_site n = site_with n.name (found (method_answer false n.descriptor))

abbrev pub call_site_at : List Entry → ℕ → Option CallSite
call_site_at pool index = option_and_then call_site (found (invoke_dynamic_at pool index))
