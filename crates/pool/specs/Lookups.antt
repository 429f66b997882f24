-- Looking up in the constant pool by its list of entries (JVMS 4.1, 4.4): what stands at an index, and to what it
-- leads. A look-up follows its indices one after the other, and tells the first that is at fault.
use Rattle.std.specs.Prelude.{◌≡◌, ◌≢◌, ℕ, ◌+◌, ◌-◌, Bool, true, false, List, nat_eq, if◌then◌else◌, Option, Some, None, Result, Ok, Err, slice_get}
use Rattle.pool.specs.declared.fault.PoolFault.{PoolFault}
use Rattle.pool.specs.declared.fault.PoolFault.TheVariants.{BadIndex, WrongKind}
use Rattle.pool.specs.Entries.{Entry, Utf8, Class, NameAndType, Fieldref, Methodref, InterfaceMethodref, Dynamic, InvokeDynamic, Unusable}

-- the next step, after one that found something
abbrev pub and_then : {A B : Type 0} → Result A PoolFault → (A → Result B PoolFault) → Result B PoolFault
and_then (Ok a) next = next a
and_then (Err e) next = Err e

-- The call answers what the look-up does, of which it holds a view.
abbrev pub Answers : {X V : Type 0} → (X → V) → Result V PoolFault → Result X PoolFault → Type 0
Answers view found (Ok x) = found ≡ Ok (view x)
Answers view found (Err e) = found ≡ Err e

-- ---- an entry

-- what was found at an index; at the second index of a Long or Double nothing may be looked up (JVMS 4.4.5)
abbrev pub usable : ℕ → Option Entry → Result Entry PoolFault
usable index None = Err (BadIndex index)
usable index (Some Unusable) = Err (BadIndex index)
usable index (Some e) = Ok e

-- indices begin with 1 (JVMS 4.1)
unfoldable pub entry_at : List Entry → ℕ → Result Entry PoolFault
entry_at es index = if nat_eq index 0 then Err (BadIndex index) else usable index (slice_get es (index - 1))

-- ---- a text

abbrev pub text_in : ℕ → Entry → Result (List ℕ) PoolFault
text_in index (Utf8 bytes) = Ok bytes
text_in index e = Err (WrongKind index)

unfoldable pub text_at : List Entry → ℕ → Result (List ℕ) PoolFault
text_at es index = and_then (entry_at es index) (text_in index)

-- ---- the name of a class (JVMS 4.4.1)

abbrev pub class_name_in : List Entry → ℕ → Entry → Result (List ℕ) PoolFault
class_name_in es index (Class name) = text_at es name
class_name_in es index e = Err (WrongKind index)

unfoldable pub class_name_at : List Entry → ℕ → Result (List ℕ) PoolFault
class_name_at es index = and_then (entry_at es index) (class_name_in es index)

-- ---- a name and a descriptor (JVMS 4.4.6)

pub record Named : Type 0 where
  pub name : List ℕ
  pub descriptor : List ℕ

unfoldable pub named : List Entry → ℕ → ℕ → Result Named PoolFault
named es name descriptor =
    and_then (text_at es name) (λ n. and_then (text_at es descriptor) (λ d. Ok (record { name = n; descriptor = d })))

abbrev pub name_and_type_in : List Entry → ℕ → Entry → Result Named PoolFault
name_and_type_in es index (NameAndType name descriptor) = named es name descriptor
name_and_type_in es index e = Err (WrongKind index)

unfoldable pub name_and_type_at : List Entry → ℕ → Result Named PoolFault
name_and_type_at es index = and_then (entry_at es index) (name_and_type_in es index)

-- ---- a field or a method of a class (JVMS 4.4.2)

pub record FieldOf : Type 0 where
  pub class : List ℕ
  pub name : List ℕ
  pub descriptor : List ℕ

unfoldable pub member : List Entry → ℕ → ℕ → Result FieldOf PoolFault
member es class name_and_type =
    and_then (class_name_at es class)
    (λ c. and_then (name_and_type_at es name_and_type)
    (λ n. Ok (record { class = c; name = n.name; descriptor = n.descriptor })))

abbrev pub field_ref_in : List Entry → ℕ → Entry → Result FieldOf PoolFault
field_ref_in es index (Fieldref class name_and_type) = member es class name_and_type
field_ref_in es index e = Err (WrongKind index)

unfoldable pub field_ref_at : List Entry → ℕ → Result FieldOf PoolFault
field_ref_at es index = and_then (entry_at es index) (field_ref_in es index)

pub record MethodOf : Type 0 where
  -- the constant is an InterfaceMethodref
  pub interface : Bool
  pub class : List ℕ
  pub name : List ℕ
  pub descriptor : List ℕ

unfoldable pub method : List Entry → Bool → ℕ → ℕ → Result MethodOf PoolFault
method es interface class name_and_type =
    and_then (member es class name_and_type)
    (λ m. Ok (record { interface = interface; class = m.class; name = m.name; descriptor = m.descriptor }))

abbrev pub method_ref_in : List Entry → ℕ → Entry → Result MethodOf PoolFault
method_ref_in es index (Methodref class name_and_type) = method es false class name_and_type
method_ref_in es index (InterfaceMethodref class name_and_type) = method es true class name_and_type
method_ref_in es index e = Err (WrongKind index)

unfoldable pub method_ref_at : List Entry → ℕ → Result MethodOf PoolFault
method_ref_at es index = and_then (entry_at es index) (method_ref_in es index)

-- ---- a constant that is computed, and a call that is bound when it is first made, each by its name and descriptor
-- (JVMS 4.4.10)

abbrev pub dynamic_in : List Entry → ℕ → Entry → Result Named PoolFault
dynamic_in es index (Dynamic bootstrap name_and_type) = name_and_type_at es name_and_type
dynamic_in es index e = Err (WrongKind index)

unfoldable pub dynamic_at : List Entry → ℕ → Result Named PoolFault
dynamic_at es index = and_then (entry_at es index) (dynamic_in es index)

abbrev pub invoke_dynamic_in : List Entry → ℕ → Entry → Result Named PoolFault
invoke_dynamic_in es index (InvokeDynamic bootstrap name_and_type) = name_and_type_at es name_and_type
invoke_dynamic_in es index e = Err (WrongKind index)

unfoldable pub invoke_dynamic_at : List Entry → ℕ → Result Named PoolFault
invoke_dynamic_at es index = and_then (entry_at es index) (invoke_dynamic_in es index)

-- ---- the same by what stands where

-- the entry stands at the index, counted from 1, and may be used
pub record StandsAt (es : List Entry) (index : ℕ) (e : Entry) : Type 0 where
  pub place : ℕ
  pub counted : index ≡ place + 1
  pub here : slice_get es place ≡ Some e
  pub used : e ≢ Unusable

abbrev pub HasText : List Entry → ℕ → List ℕ → Type 0
HasText es index bytes = StandsAt es index (Utf8 bytes)

pub record HasClassName (es : List Entry) (index : ℕ) (bytes : List ℕ) : Type 0 where
  pub name : ℕ
  pub entry : StandsAt es index (Class name)
  pub text : HasText es name bytes

pub record HasNameAndType (es : List Entry) (index : ℕ) (x : Named) : Type 0 where
  pub name : ℕ
  pub descriptor : ℕ
  pub entry : StandsAt es index (NameAndType name descriptor)
  pub name_text : HasText es name x.name
  pub descriptor_text : HasText es descriptor x.descriptor

pub record HasDynamic (es : List Entry) (index : ℕ) (x : Named) : Type 0 where
  pub bootstrap : ℕ
  pub name_and_type : ℕ
  pub entry : StandsAt es index (Dynamic bootstrap name_and_type)
  pub named : HasNameAndType es name_and_type x

pub record HasInvokeDynamic (es : List Entry) (index : ℕ) (x : Named) : Type 0 where
  pub bootstrap : ℕ
  pub name_and_type : ℕ
  pub entry : StandsAt es index (InvokeDynamic bootstrap name_and_type)
  pub named : HasNameAndType es name_and_type x

pub record HasMember (es : List Entry) (class name_and_type : ℕ) (x : FieldOf) : Type 0 where
  pub class_name : HasClassName es class x.class
  pub named : HasNameAndType es name_and_type (record { name = x.name; descriptor = x.descriptor })

pub record HasField (es : List Entry) (index : ℕ) (x : FieldOf) : Type 0 where
  pub class : ℕ
  pub name_and_type : ℕ
  pub entry : StandsAt es index (Fieldref class name_and_type)
  pub member : HasMember es class name_and_type x

-- the constant of a class's or an interface's method
abbrev pub methodref : Bool → ℕ → ℕ → Entry
methodref false class name_and_type = Methodref class name_and_type
methodref true class name_and_type = InterfaceMethodref class name_and_type

pub record HasMethod (es : List Entry) (index : ℕ) (x : MethodOf) : Type 0 where
  pub class : ℕ
  pub name_and_type : ℕ
  pub entry : StandsAt es index (methodref x.interface class name_and_type)
  pub member : HasMember es class name_and_type (record { class = x.class; name = x.name; descriptor = x.descriptor })
