-- A method with code by the parts that the program keeps of it (JVMS 4.6, 4.7.3): its class, its number, its Code
-- attribute, two of its properties, and the type of its result. Its other parts are what the class file says.
use Rattle.std.specs.Prelude.{◌≡◌, ℕ, Bool, List, [], length, Option, Some, None, slice_get}
use Rattle.std.specs.Option.{option_and_then}
use Rattle.std.specs.Coded.{Coded, Coded-set, codes}
use Rattle.names.specs.Descriptors.{FieldDescriptor, MethodDescriptor}
use Rattle.names.specs.DescriptorCodes.{coded_type}
use Rattle.pool.specs.ConstantMeanings.{class_at}
use Rattle.classfile.specs.Values.{CodeBody, Class}
use Rattle.classfile.specs.Methods.{JudgedClass, Method, judged_bootstraps, class_named, superclass_of, names_at, declared_fields, exception_entries, stack_map_of, code_of, member_type, method_of}

-- none where there is none
abbrev pub or_empty : {A : Type 0} → Option (List A) → List A
or_empty None = []
or_empty (Some items) = items

abbrev pub params_in : Option MethodDescriptor → List FieldDescriptor
params_in None = []
params_in (Some type) = type.params

-- the parameters of the method of this number
abbrev pub params_at : Class → ℕ → List FieldDescriptor
params_at c number = params_in (option_and_then (member_type c.constant_pool) (slice_get c.methods number))

-- the Code attribute of the method of this number (4.7.3), if it has one
abbrev pub code_at : Class → ℕ → Option CodeBody
code_at c number = option_and_then (λ m. code_of m.attributes) (slice_get c.methods number)

-- `code` is what its code says
abbrev pub method_by_parts : {A : Type 0} → JudgedClass → ℕ → CodeBody → Bool → Bool → Option FieldDescriptor
    → List (ℕ × A) → Method A
method_by_parts c number body is_static is_init result code = record {
  code = code;
  code_length = length body.code;
  max_stack = body.max_stack;
  max_locals = body.max_locals;
  exceptions = or_empty (exception_entries c.file.constant_pool body.exception_table);
  stack_map = stack_map_of body.attributes;
  constant_pool = c.file.constant_pool;
  major_version = c.file.major_version;
  class = or_empty (class_named (class_at c.file.constant_pool c.file.this_class));
  superclass = superclass_of c.file.constant_pool c.file.super_class;
  interfaces = names_at c.file.constant_pool c.file.interfaces;
  fields = declared_fields c.file.constant_pool c.file.fields;
  is_static = is_static;
  is_init = is_init;
  type = record { params = params_at c.file number; result = result };
  bootstraps = judged_bootstraps c;
  dynamic = c.dynamic;
  release = c.file.release;
}

-- These are the parts of the method of this number. What its code says is only handed on, so that one list stands for
-- all.
abbrev pub IsMethod : JudgedClass → ℕ → CodeBody → Bool → Bool → Option FieldDescriptor → Type 0
IsMethod c number body is_static is_init result =
    method_of {A = ℕ} c number [] ≡ Some (method_by_parts c number body is_static is_init result [])

coded_method : Coded (Option (Method ℕ))
coded_method = hlevel (coded_type, codes)

pub is_method_prop :
    (c : JudgedClass) (number : ℕ) (body : CodeBody) (is_static is_init : Bool) (result : Option FieldDescriptor)
    → IsProp (IsMethod c number body is_static is_init result)
is_method_prop c number body is_static is_init result =
    Coded-set coded_method (method_of c number []) (Some (method_by_parts c number body is_static is_init result []))
