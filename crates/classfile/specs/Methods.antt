-- A method with code as its instructions see it (JVMS 4.6, 4.7.3): what its class file says, constants looked up.
use Rattle.std.specs.Prelude.{◌≡◌, ℕ, Bool, false, not, ◌&&◌, ◌||◌, nat_eq, nat_le, nat_lt, bytes_eq, List, [], ◌∷◌, Option, Some, None, Result, Ok, Err, if◌then◌else◌, slice_get, length}
use Rattle.std.specs.Option.{option_and_then}
use Rattle.names.specs.Descriptors.{MethodDescriptor}
use Rattle.names.specs.ReferenceTypes.{ReferenceType, class_type}
use Rattle.names.specs.StandardNames.{init_name, object_name, throwable_name}
use Rattle.names.specs.Reading.{method_answer}
use Rattle.pool.specs.Entries.{Entry}
use Rattle.pool.specs.declared.fault.PoolFault.{PoolFault}
use Rattle.pool.specs.Lookups.{Named, class_name_at, text_at}
use Rattle.pool.specs.ConstantMeanings.{found, class_at, FieldConstant}
use Rattle.classfile.specs.Bootstraps.{BootstrapMethod, bootstraps_of}
use Rattle.classfile.specs.Flags.{has, STATIC}
use Rattle.classfile.specs.Values.{of_parts, of_numbers, raw, Handler, Nested, CodeBody, Attribute, Member, Class}

-- an entry of the exception table (4.7.3): what is caught from one offset on up to another, and where it is handled
pub record ExceptionEntry : Type 0 where
  pub from : ℕ
  pub to : ℕ
  pub handler : ℕ
  pub caught : ReferenceType

-- A class file as its methods are judged: `invokedynamic` and dynamic constants too (4.4.10), or these are refused.
pub record JudgedClass : Type 0 where
  pub file : Class
  pub dynamic : Bool

-- The method; `A` is what is known of an instruction, each of which stands with its offset.
pub record Method (A : Type 0) : Type 0 where
  pub code : List (ℕ × A)
  -- in bytes
  pub code_length : ℕ
  pub max_stack : ℕ
  pub max_locals : ℕ
  pub exceptions : List ExceptionEntry
  -- the body of the StackMapTable (4.7.4)
  pub stack_map : Option (List ℕ)
  pub constant_pool : List Entry
  pub major_version : ℕ
  pub class : List ℕ
  pub superclass : Option (List ℕ)
  -- the direct superinterfaces
  pub interfaces : List (List ℕ)
  -- the fields that the class declares
  pub fields : List Named
  pub is_static : Bool
  pub is_init : Bool
  pub type : MethodDescriptor
  -- the bootstrap methods of the class, where dynamic constants are judged
  pub bootstraps : List BootstrapMethod
  -- `invokedynamic` and dynamic constants are judged, and not refused
  pub dynamic : Bool
  -- the class is read as a release has it, and all is asked that a virtual machine asks
  pub release : Bool

-- ---- words about a method

-- what the receiver of a method is when it begins
pub data Receiver : Type 0 where
  -- of a static method
  no_receiver : Receiver
  -- an object that is initialized
  ready_receiver : Receiver
  -- the own object, yet to be initialized: of an instance initialization method outside Object (2.9.1)
  own_receiver : Receiver

abbrev pub receiver_of : {A : Type 0} → Method A → Receiver
receiver_of m =
    if m.is_static then no_receiver
    else if m.is_init && not (bytes_eq m.class object_name) then own_receiver
    else ready_receiver

abbrev pub is_named : List ℕ → List ℕ → Named → Bool
is_named name descriptor n = bytes_eq n.name name && bytes_eq n.descriptor descriptor

abbrev pub is_declared : List Named → List ℕ → List ℕ → Bool
is_declared [] name descriptor = false
is_declared (n ∷ ns) name descriptor = is_named name descriptor n || is_declared ns name descriptor

-- the class declares the field that the constant names
abbrev pub is_own_field : {A : Type 0} → Method A → FieldConstant → Bool
is_own_field m f = bytes_eq m.class f.class && is_declared m.fields f.name f.descriptor

-- there is a name, and it is this one
abbrev pub is_name : Option (List ℕ) → List ℕ → Bool
is_name None name = false
is_name (Some other) name = bytes_eq other name

-- the entry covers the instruction at an offset: its start is included, its end is not
abbrev pub covers : ExceptionEntry → ℕ → Bool
covers e at = nat_le e.from at && nat_lt at e.to

-- ---- what a class file says

abbrev pub code_of : List Attribute → Option CodeBody
code_of [] = None
code_of (of_parts name code ∷ attributes) = Some code
code_of (of_numbers name numbers ∷ attributes) = code_of attributes
code_of (raw name body ∷ attributes) = code_of attributes

abbrev pub stack_map_of : List Nested → Option (List ℕ)
stack_map_of [] = None
stack_map_of (of_parts name body ∷ attributes) = Some body
stack_map_of (of_numbers name numbers ∷ attributes) = stack_map_of attributes
stack_map_of (raw name body ∷ attributes) = stack_map_of attributes

-- a class, and no array
abbrev pub class_named : Option ReferenceType → Option (List ℕ)
class_named (Some (class_type name)) = Some name
class_named _ = None

-- the direct superclass, which Object alone has not (4.1)
abbrev pub superclass_of : List Entry → ℕ → Option (List ℕ)
superclass_of pool index = if nat_eq index 0 then None else class_named (class_at pool index)

-- a name, where one was found, in front of others
abbrev pub with_name : Result (List ℕ) PoolFault → List (List ℕ) → List (List ℕ)
with_name (Ok name) names = name ∷ names
with_name (Err e) names = names

-- the names of the classes at these indices
abbrev pub names_at : List Entry → List ℕ → List (List ℕ)
names_at pool [] = []
names_at pool (index ∷ others) = with_name (class_name_at pool index) (names_at pool others)

abbrev pub texts : Option (List ℕ) → Option (List ℕ) → List Named → List Named
texts (Some name) (Some descriptor) others = record { name = name; descriptor = descriptor } ∷ others
texts _ _ others = others

abbrev pub declared_fields : List Entry → List Member → List Named
declared_fields pool [] = []
declared_fields pool (f ∷ fs) =
    texts (found (text_at pool f.name)) (found (text_at pool f.descriptor)) (declared_fields pool fs)

-- catch type 0 is for all that is thrown
abbrev pub caught_type : List Entry → ℕ → Option ReferenceType
caught_type pool index = if nat_eq index 0 then Some (class_type throwable_name) else class_at pool index

abbrev pub entry_with : Handler → Option ReferenceType → Option (List ExceptionEntry) → Option (List ExceptionEntry)
entry_with h (Some caught) (Some others) =
    Some (record { from = h.start_pc; to = h.end_pc; handler = h.handler_pc; caught = caught } ∷ others)
entry_with h _ _ = None

-- the entry that an item of an exception table is
pub record IsEntry (pool : List Entry) (h : Handler) (e : ExceptionEntry) : Type 0 where
  pub caught : caught_type pool h.catch_type ≡ Some e.caught
  pub is : e ≡ record { from = h.start_pc; to = h.end_pc; handler = h.handler_pc; caught = e.caught }

abbrev pub exception_entries : List Entry → List Handler → Option (List ExceptionEntry)
exception_entries pool [] = Some []
exception_entries pool (h ∷ hs) = entry_with h (caught_type pool h.catch_type) (exception_entries pool hs)

-- where dynamic constants are refused, none is looked at
abbrev pub judged_bootstraps : JudgedClass → List BootstrapMethod
judged_bootstraps c = if c.dynamic then bootstraps_of c.file else []

-- The parts of a method that hang on constants: the names of its class and of itself, its types, and its exception
-- table.
abbrev pub method_with :
    {A : Type 0} → JudgedClass → Member → List (ℕ × A) → CodeBody → Option (List ℕ) → Option (List ℕ)
    → Option MethodDescriptor → Option (List ExceptionEntry) → Option (Method A)
method_with c member code body (Some class) (Some name) (Some type) (Some exceptions) = Some (record {
  code = code;
  code_length = length body.code;
  max_stack = body.max_stack;
  max_locals = body.max_locals;
  exceptions = exceptions;
  stack_map = stack_map_of body.attributes;
  constant_pool = c.file.constant_pool;
  major_version = c.file.major_version;
  class = class;
  superclass = superclass_of c.file.constant_pool c.file.super_class;
  interfaces = names_at c.file.constant_pool c.file.interfaces;
  fields = declared_fields c.file.constant_pool c.file.fields;
  is_static = has member.access_flags STATIC;
  is_init = bytes_eq name init_name;
  type = type;
  bootstraps = judged_bootstraps c;
  dynamic = c.dynamic;
  release = c.file.release;
})
method_with c member code body _ _ _ _ = None

-- a descriptor is measured with a receiver unless the method is static
abbrev pub member_type : List Entry → Member → Option MethodDescriptor
member_type pool member =
    option_and_then (λ text. found (method_answer (not (has member.access_flags STATIC)) text))
    (found (text_at pool member.descriptor))

abbrev pub method_from : {A : Type 0} → JudgedClass → List (ℕ × A) → Member → Option (Method A)
method_from c code member =
    option_and_then (λ body. method_with c member code body
    (class_named (class_at c.file.constant_pool c.file.this_class))
    (found (text_at c.file.constant_pool member.name))
    (member_type c.file.constant_pool member)
    (exception_entries c.file.constant_pool body.exception_table))
    (code_of member.attributes)

-- The method of this number, if it has code, and of the constants that it names each is of its kind and form. `code` is
-- what its code says.
abbrev pub method_of : {A : Type 0} → JudgedClass → ℕ → List (ℕ × A) → Option (Method A)
method_of c number code = option_and_then (method_from c code) (slice_get c.file.methods number)
