-- The constant that an instruction names, by its act (JVMS 4.9.1, 4.10.1.9, 6.5): it is there, and of the kind that the
-- instruction asks for. The law says that a state which is no fault has it, in these words and not in those of the
-- machine's own table.
use Rattle.std.specs.Prelude.{◌≡◌, ◌≢◌, ℕ, ◌<◌, ◌≤◌, true, false, List, slice_get, Some, ◌⊎◌}
use Rattle.names.specs.declared.base.Primitive.{Primitive}
use Rattle.names.specs.Descriptors.{FieldDescriptor, field_width, method_width}
use Rattle.names.specs.ReferenceTypes.{ReferenceType, class_type, dimensions_of}
use Rattle.names.specs.StandardNames.{init_name}
use Rattle.pool.specs.Entries as entries
use Rattle.pool.specs.Entries.{Entry}
use Rattle.pool.specs.ConstantMeanings.{constant_at, class_at, FieldConstant, field_at, MethodConstant, method_at, dynamic_type_at, CallSite, call_site_at}
use Rattle.classfile.specs.Methods.{Method}
use Rattle.hierarchy.specs.World.{World}
use Rattle.insn.specs.Meanings as acts
use Rattle.insn.specs.Meanings.{Act}
use Rattle.machine.specs.Demands.{State, HasOperands}

-- ---- constants that are loaded

-- a Dynamic constant of so many units, where such constants are judged
abbrev pub IsComputed : Method Act → ℕ → ℕ → Type 0
IsComputed m units index =
    (m.dynamic ≡ true)
    × ((type : FieldDescriptor) × (dynamic_type_at m.constant_pool index ≡ Some type) × (field_width type ≡ units))

-- of one unit
abbrev pub IsNarrow : Method Act → ℕ → Entry → Type 0
IsNarrow m index (entries.Integer bits) = Unit {0}
IsNarrow m index (entries.Float bits) = Unit {0}
IsNarrow m index (entries.String text) = Unit {0}
IsNarrow m index (entries.Class name) = Unit {0}
IsNarrow m index (entries.MethodType descriptor) = Unit {0}
IsNarrow m index (entries.MethodHandle kind target) = Unit {0}
IsNarrow m index (entries.Dynamic bootstrap name) = IsComputed m 1 index
IsNarrow m index _ = ⊥

-- of two
abbrev pub IsWide : Method Act → ℕ → Entry → Type 0
IsWide m index (entries.Long high low) = Unit {0}
IsWide m index (entries.Double high low) = Unit {0}
IsWide m index (entries.Dynamic bootstrap name) = IsComputed m 2 index
IsWide m index _ = ⊥

abbrev pub Loads : Method Act → ℕ → (Entry → Type 0) → Type 0
Loads m index IsLoaded = (e : Entry) × (constant_at m.constant_pool index ≡ Some e) × IsLoaded e

-- ---- fields, methods, classes

abbrev pub NamesField : Method Act → ℕ → Type 0
NamesField m index = (f : FieldConstant) × (field_at m.constant_pool index ≡ Some f)

abbrev pub NamesMethod : Method Act → ℕ → (MethodConstant → Type 0) → Type 0
NamesMethod m index Is = (c : MethodConstant) × (method_at m.constant_pool index ≡ Some c) × Is c

abbrev pub NamesType : Method Act → ℕ → (ReferenceType → Type 0) → Type 0
NamesType m index Is = (type : ReferenceType) × (class_at m.constant_pool index ≡ Some type) × Is type

-- a class or an interface, and no array
abbrev pub IsClass : ReferenceType → Type 0
IsClass type = (name : List ℕ) × (type ≡ class_type name)

-- a method of an interface is called so from version 52 on
abbrev pub MayBeCalled : Method Act → MethodConstant → Type 0
MayBeCalled m c = (c.interface ≡ false) ⊎ (52 ≤ m.major_version)

-- the receiver and the parameters take at most 255 units (4.3.3)
abbrev pub HasRoomForReceiver : MethodConstant → Type 0
HasRoomForReceiver c = method_width c.type false < 255

abbrev pub IsVirtual : MethodConstant → Type 0
IsVirtual c = (c.interface ≡ false) × (c.name ≢ init_name) × HasRoomForReceiver c

abbrev pub IsStatic : Method Act → MethodConstant → Type 0
IsStatic m c = IsClass c.class × (c.name ≢ init_name) × MayBeCalled m c

-- the count is the width of the receiver and the parameters
abbrev pub IsOfInterface : ℕ → MethodConstant → Type 0
IsOfInterface count c =
    IsClass c.class × (c.interface ≡ true) × (c.name ≢ init_name) × HasRoomForReceiver c
    × (count ≡ method_width c.type true)

-- a constructor of a class, or another method
abbrev pub IsSpecial : Method Act → MethodConstant → Type 0
IsSpecial m c =
    IsClass c.class × HasRoomForReceiver c
    × (((c.name ≡ init_name) × (c.interface ≡ false)) ⊎ ((c.name ≢ init_name) × MayBeCalled m c))

-- its name does not begin with <, which is 60, and call sites are judged
abbrev pub IsSite : Method Act → CallSite → Type 0
IsSite m c = (m.dynamic ≡ true) × (slice_get c.name 0 ≢ Some 60)

abbrev pub IsAny : ReferenceType → Type 0
IsAny type = Unit {0}

abbrev pub NamesConstant : Method Act → Act → Type 0
NamesConstant m (acts.LoadConstant i) = Loads m i (IsNarrow m i)
NamesConstant m (acts.LoadWideConstant i) = Loads m i (IsWide m i)
NamesConstant m (acts.GetStatic i) = NamesField m i
NamesConstant m (acts.PutStatic i) = NamesField m i
NamesConstant m (acts.GetField i) = NamesField m i
NamesConstant m (acts.PutField i) = NamesField m i
NamesConstant m (acts.InvokeVirtual i) = NamesMethod m i IsVirtual
NamesConstant m (acts.InvokeSpecial i) = NamesMethod m i (IsSpecial m)
NamesConstant m (acts.InvokeStatic i) = NamesMethod m i (IsStatic m)
NamesConstant m (acts.InvokeInterface i count) = NamesMethod m i (IsOfInterface count)
NamesConstant m (acts.InvokeDynamic i) = (c : CallSite) × (call_site_at m.constant_pool i ≡ Some c) × IsSite m c
NamesConstant m (acts.New i) = NamesType m i IsClass
NamesConstant m (acts.NewArray element) = (p : Primitive) × (element ≡ Some p)
-- an array has at most 255 dimensions (4.4.1)
NamesConstant m (acts.NewReferenceArray i) = NamesType m i (λ type. dimensions_of type < 255)
NamesConstant m (acts.NewMultiArray i n) = NamesType m i (λ type. (1 ≤ n) × (n ≤ dimensions_of type))
NamesConstant m (acts.CheckCast i) = NamesType m i IsAny
NamesConstant m (acts.InstanceOf i) = NamesType m i IsAny
NamesConstant m acts.Unsupported = ⊥
NamesConstant m _ = Unit {0}

-- The part of the demands that speaks of operands says so.
abbrev pub ConstantsAreNamed : Type 0
ConstantsAreNamed = (world : World) (m : Method Act) (s : State) (act : Act) → HasOperands world m s act
    → NamesConstant m act
