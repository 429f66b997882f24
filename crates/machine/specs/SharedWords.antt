-- The words on methods and constants that rules, machine and laws share, each in other words (JVMS 2.9.1, 2.10, 4.3, 4.4,
-- 4.7.3): receivers by flags, name and class, the range of an exception table's entry, the fields that a class
-- declares, the targets of offsets, and what a constant means by the texts at its indices and the grammar. The laws say
-- that both agree, so a shared word that says less breaks a law, though rules and machine change with it.
use Rattle.std.specs.Prelude.{◌≡◌, ◌≢◌, ◌↔◌, ℕ, ◌<◌, ◌≤◌, ℤ, pos, ◌+ℤ◌, true, false, List, slice_get, Some, ◌⊎◌}
use Rattle.names.specs.Descriptors.{FieldDescriptor, MethodDescriptor, array, SpellsField, SpellsMethod, dimensions, AreWithinDimensions, method_width}
use Rattle.names.specs.ReferenceTypes.{ReferenceType, class_type, array_type}
use Rattle.names.specs.StandardNames.{object_name}
use Rattle.pool.specs.Entries.{Entry}
use Rattle.pool.specs.Lookups.{Named, HasClassName, FieldOf, HasField, HasMethod, HasDynamic, HasInvokeDynamic}
use Rattle.pool.specs.ConstantMeanings.{class_at, FieldConstant, field_at, MethodConstant, method_at, dynamic_type_at, CallSite, call_site_at}
use Rattle.classfile.specs.Methods.{ExceptionEntry, Method, no_receiver, ready_receiver, own_receiver, receiver_of, is_own_field, covers}
use Rattle.insn.specs.Meanings.{Act}
use Rattle.insn.specs.Offsets.{led_to, IsAmong}

-- ---- methods

-- The own object is the receiver of an instance initialization method outside Object.
abbrev pub BeginsOnOwn : Method Act → Type 0
BeginsOnOwn m = (m.is_static ≡ false) × (m.is_init ≡ true) × (m.class ≢ object_name)

-- An object that is initialized is the receiver of every other method that is not static.
abbrev pub BeginsOnReady : Method Act → Type 0
BeginsOnReady m = (m.is_static ≡ false) × ((m.is_init ≡ false) ⊎ (m.class ≡ object_name))

pub record HasReceiver (m : Method Act) : Type 0 where
  pub none : (receiver_of m ≡ no_receiver) ↔ (m.is_static ≡ true)
  pub own : (receiver_of m ≡ own_receiver) ↔ BeginsOnOwn m
  pub ready : (receiver_of m ≡ ready_receiver) ↔ BeginsOnReady m

abbrev pub ReceiversAreSaid : Type 0
ReceiversAreSaid = (m : Method Act) → HasReceiver m

-- an entry covers the offsets from its start up to its end, without that (4.7.3)
abbrev pub RangesAreSaid : Type 0
RangesAreSaid = (e : ExceptionEntry) (at : ℕ) → (covers e at ≡ true) ↔ ((e.from ≤ at) × (at < e.to))

-- the current class is the one that the constant names, and declares a field of the name and the descriptor
pub record IsOwnField (m : Method Act) (f : FieldConstant) : Type 0 where
  pub class : m.class ≡ f.class
  pub field : Named
  pub among : IsAmong field m.fields
  pub name : field.name ≡ f.name
  pub descriptor : field.descriptor ≡ f.descriptor

abbrev pub OwnFieldsAreSaid : Type 0
OwnFieldsAreSaid = (m : Method Act) (f : FieldConstant) → (is_own_field m f ≡ true) ↔ IsOwnField m f

-- each offset leads from the instruction's start, and to nothing else
abbrev pub TargetsAreSaid : Type 0
TargetsAreSaid = (at : ℕ) (offsets : List ℤ) (to : ℤ) → IsAmong to (led_to at offsets)
    ↔ ((offset : ℤ) × IsAmong offset offsets × (to ≡ pos at +ℤ offset))

-- ---- constants

-- a text that is a field descriptor of at most 255 dimensions (4.3.2)
abbrev pub IsFieldType : List ℕ → FieldDescriptor → Type 0
IsFieldType text type = SpellsField text type × (dimensions type ≤ 255)

-- a text that is a method descriptor, with parameters of at most 255 units (4.3.3)
abbrev pub IsMethodType : List ℕ → MethodDescriptor → Type 0
IsMethodType text type = SpellsMethod text type × AreWithinDimensions type × (method_width type false ≤ 255)

-- the text of a Class constant: an array's descriptor, which begins with [ (91), or a name (4.4.1)
abbrev pub IsTypeText : List ℕ → ReferenceType → Type 0
IsTypeText text (class_type name) = (text ≡ name) × (slice_get text 0 ≢ Some 91)
IsTypeText text (array_type component) = IsFieldType text (array component)

pub record HasClass (pool : List Entry) (index : ℕ) (type : ReferenceType) : Type 0 where
  pub text : List ℕ
  pub here : HasClassName pool index text
  pub type_text : IsTypeText text type

pub record IsField (pool : List Entry) (index : ℕ) (f : FieldConstant) : Type 0 where
  pub text : FieldOf
  pub here : HasField pool index text
  pub class : IsTypeText text.class (class_type f.class)
  pub name : text.name ≡ f.name
  pub descriptor : text.descriptor ≡ f.descriptor
  pub type : IsFieldType f.descriptor f.type

pub record IsMethod (pool : List Entry) (index : ℕ) (c : MethodConstant) : Type 0 where
  pub class_text : List ℕ
  pub here : HasMethod pool index
      (record { interface = c.interface; class = class_text; name = c.name; descriptor = c.descriptor })
  pub class : IsTypeText class_text c.class
  pub type : IsMethodType c.descriptor c.type

pub record IsDynamic (pool : List Entry) (index : ℕ) (type : FieldDescriptor) : Type 0 where
  pub text : Named
  pub here : HasDynamic pool index text
  pub type_text : IsFieldType text.descriptor type

pub record IsSite (pool : List Entry) (index : ℕ) (c : CallSite) : Type 0 where
  pub text : Named
  pub here : HasInvokeDynamic pool index text
  pub name : text.name ≡ c.name
  pub type : IsMethodType text.descriptor c.type

pub record HasMeanings (pool : List Entry) (index : ℕ) : Type 0 where
  pub class : (type : ReferenceType) → (class_at pool index ≡ Some type) ↔ HasClass pool index type
  pub field : (f : FieldConstant) → (field_at pool index ≡ Some f) ↔ IsField pool index f
  pub method : (c : MethodConstant) → (method_at pool index ≡ Some c) ↔ IsMethod pool index c
  pub dynamic : (type : FieldDescriptor) → (dynamic_type_at pool index ≡ Some type) ↔ IsDynamic pool index type
  pub call_site : (c : CallSite) → (call_site_at pool index ≡ Some c) ↔ IsSite pool index c

abbrev pub ConstantsAreSaid : Type 0
ConstantsAreSaid = (pool : List Entry) (index : ℕ) → HasMeanings pool index
