-- The entries of a pool as instructions name them.
use Rattle.std.specs.Prelude.{◌≡◌, ◌∷◌, ◌++◌, [], ℕ, bytes_eq, ◌/◌, ◌%◌, nat_lt, if◌then◌else◌, Bool, true, false, List, Option, Some, None}
use Rattle.std.specs.Option.{option_and_then, option_map_or}
use Rattle.names.specs.Descriptors.{FieldDescriptor}
use Rattle.names.specs.Names.{less_than}
use Rattle.names.specs.ReferenceTypes.{ReferenceType, reference_type}
use Rattle.names.specs.StandardNames.{init_name}
use Rattle.pool.specs.declared.constant.Constant.{Constant}
use Rattle.pool.specs.declared.constant.Constant.TheVariants as constants
use Rattle.pool.specs.Entries.{Entry}
use Rattle.pool.specs.Entries as entries
use Rattle.pool.specs.Lookups.{text_at, name_and_type_at, member, method}
use Rattle.pool.specs.ConstantMeanings.{FieldConstant, MethodConstant, CallSite, found, constant_at, field_constant, method_constant, dynamic_type, call_site}
use Rattle.classfile.specs.Naming.{begins_with}
use Rattle.type_numbers.specs.declared.method_numbers.MethodNumbers.{MethodNumbers}
use Rattle.type_numbers.specs.declared.named_constant.NamedConstant.{NamedConstant}
use Rattle.type_numbers.specs.declared.named_constant.NamedConstant.TheVariants.{Other, Class, Field, Method, Loaded, Dynamic, Site}
use Rattle.type_numbers.specs.Numbers.{Numbering}
use Rattle.type_numbers.specs.Constants.{Meaning, IsDescribed, loaded_type}

abbrev pub class_by : List Entry → Entry → Option ReferenceType
class_by pool (entries.Class name) = option_and_then reference_type (found (text_at pool name))
class_by pool _ = None

abbrev pub field_by : List Entry → Entry → Option FieldConstant
field_by pool (entries.Fieldref class name_and_type) =
    option_and_then field_constant (found (member pool class name_and_type))
field_by pool _ = None

abbrev pub method_by : List Entry → Entry → Option MethodConstant
method_by pool (entries.Methodref class name_and_type) =
    option_and_then method_constant (found (method pool false class name_and_type))
method_by pool (entries.InterfaceMethodref class name_and_type) =
    option_and_then method_constant (found (method pool true class name_and_type))
method_by pool _ = None

abbrev pub computed_by : List Entry → Entry → Option FieldDescriptor
computed_by pool (entries.Dynamic bootstrap name_and_type) =
    option_and_then dynamic_type (found (name_and_type_at pool name_and_type))
computed_by pool _ = None

abbrev pub site_by : List Entry → Entry → Option CallSite
site_by pool (entries.InvokeDynamic bootstrap name_and_type) =
    option_and_then call_site (found (name_and_type_at pool name_and_type))
site_by pool _ = None

abbrev pub meaning_by : List Entry → Entry → Meaning
meaning_by pool e = record {
  class = class_by pool e;
  field = field_by pool e;
  method = method_by pool e;
  loaded = loaded_type e;
  computed = computed_by pool e;
  site = site_by pool e;
}

abbrev pub IsEntryDescribed : Numbering → List ℕ → List Entry → Entry → NamedConstant → Type 0
IsEntryDescribed s row pool e c = IsDescribed s row (meaning_by pool e) c

-- a row goes on with a constant, which is this entry
pub record IsPushed (s : Numbering) (row : List ℕ) (pool : List Entry) (e : Entry) (old new : List NamedConstant)
    : Type 0 where
  pub named : NamedConstant
  pub is : new ≡ old ++ named ∷ []
  pub described : IsEntryDescribed s row pool e named

-- a constant that has no meaning for instructions: a text, or the name and the descriptor of a member
abbrev pub names_nothing : Constant → Bool
names_nothing (constants.Utf8 text) = true
names_nothing (constants.NameAndType name descriptor) = true
names_nothing _ = false

-- the indices of the texts of a member: of the name of its class, and of the descriptor, where its name is a text
abbrev pub texts_by : Option Entry → Option Entry → (ℕ → Option (List ℕ)) → Option (ℕ × ℕ)
texts_by (Some (entries.Class class)) (Some (entries.NameAndType name descriptor)) text =
    option_and_then (λ _. Some (class, descriptor)) (text name)
texts_by _ _ text = None

abbrev pub member_texts : List Entry → ℕ → ℕ → Option (ℕ × ℕ)
member_texts pool class name_and_type =
    texts_by (constant_at pool class) (constant_at pool name_and_type) (λ i. found (text_at pool i))

-- the index of the descriptor of a NameAndType whose name is a text
abbrev pub descriptor_by : Option Entry → (ℕ → Option (List ℕ)) → Option ℕ
descriptor_by (Some (entries.NameAndType name descriptor)) text = option_and_then (λ _. Some descriptor) (text name)
descriptor_by _ text = None

abbrev pub descriptor_index : List Entry → ℕ → Option ℕ
descriptor_index pool name_and_type =
    descriptor_by (constant_at pool name_and_type) (λ i. found (text_at pool i))

-- the name of a NameAndType
abbrev pub name_by : Option Entry → (ℕ → Option (List ℕ)) → Option (List ℕ)
name_by (Some (entries.NameAndType name descriptor)) text = text name
name_by _ text = None

abbrev pub member_name : List Entry → ℕ → Option (List ℕ)
member_name pool name_and_type = name_by (constant_at pool name_and_type) (λ i. found (text_at pool i))

-- a NameAndType names an instance initialization method, or has a name that begins with '<'
abbrev pub is_init_named : List Entry → ℕ → Bool
is_init_named pool name_and_type =
    option_map_or (λ name. bytes_eq name init_name) (member_name pool name_and_type) false

abbrev pub is_special_named : List Entry → ℕ → Bool
is_special_named pool name_and_type = option_map_or (begins_with less_than) (member_name pool name_and_type) false

-- a field of a class of this number, and of no array, which holds a type of that one
abbrev pub field_of : Option ℕ → Option ℕ → NamedConstant
field_of (Some class) (Some held) = if nat_lt 0 (class / 65536 % 256) then Other else Field class held
field_of _ _ = Other

-- a method of a class of this number, whose descriptor names these types
abbrev pub method_of : Bool → Bool → Option ℕ → Option MethodNumbers → NamedConstant
method_of interface init (Some class) (Some types) = Method interface init class types
method_of interface init _ _ = Other

-- a constant that loads a value of the type of this number
abbrev pub loaded_as : Option ℕ → NamedConstant
loaded_as (Some loaded) = Loaded loaded
loaded_as None = Other

-- a Dynamic of the type of this number
abbrev pub dynamic_of : Option ℕ → NamedConstant
dynamic_of (Some held) = Dynamic held
dynamic_of None = Other

-- an InvokeDynamic whose descriptor names these types
abbrev pub site_of : Bool → Option MethodNumbers → NamedConstant
site_of special (Some types) = Site special types
site_of special None = Other

-- a Class that names the type of this number, if it names one; its constant loads a type of the other
abbrev pub class_as : Option ℕ → ℕ → NamedConstant
class_as (Some class) loaded = Class class loaded
class_as None loaded = Loaded loaded
