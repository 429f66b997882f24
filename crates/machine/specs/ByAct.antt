-- The ways of an instruction, by its act and the constant that it names (JVMS 2.10, 2.11, 6.5): where it leads, which
-- operand only raises where it is null, and what it answers. The laws of breadth speak in these words, and not in those
-- of the machine's own table.
use Rattle.std.specs.Prelude.{ℕ, ◌+◌, ℤ, Bool, true, false, bytes_eq, if◌then◌else◌, List, [], ◌∷◌, length, Option, Some, None}
use Rattle.names.specs.declared.base.Primitive.{Primitive}
use Rattle.names.specs.declared.base.Primitive.TheVariants as primitives
use Rattle.names.specs.Descriptors.{FieldDescriptor, primitive, class}
use Rattle.names.specs.ReferenceTypes.{ReferenceType, class_type, array_type, descriptor_of}
use Rattle.names.specs.StandardNames.{init_name, string_name, class_name, method_type_name, method_handle_name}
use Rattle.pool.specs.Entries as entries
use Rattle.pool.specs.Entries.{Entry}
use Rattle.pool.specs.ConstantMeanings.{constant_at, class_at, FieldConstant, field_at, MethodConstant, method_at, dynamic_type_at, CallSite, call_site_at}
use Rattle.classfile.specs.Methods.{Method}
use Rattle.insn.specs.Meanings as acts
use Rattle.insn.specs.Meanings.{Act}
use Rattle.machine.specs.Heap.{ready, made, Object, object}

-- ---- where it leads

-- the offsets of a branch or switch, from the instruction's own start
abbrev pub jumps : Act → List ℤ
jumps (acts.IfInt offset) = offset ∷ []
jumps (acts.IfInts offset) = offset ∷ []
jumps (acts.IfReferences offset) = offset ∷ []
jumps (acts.IfNull offset) = offset ∷ []
jumps (acts.Goto offset) = offset ∷ []
jumps (acts.Switch default offsets) = default ∷ offsets
jumps _ = []

-- a return, with a value or without
abbrev pub is_return : Act → Bool
is_return (acts.Return kind) = true
is_return acts.ReturnReference = true
is_return acts.ReturnVoid = true
is_return _ = false

-- athrow only raises
abbrev pub is_throw : Act → Bool
is_throw acts.Throw = true
is_throw _ = false

-- the next instruction may follow: not after goto, a switch, a return or athrow
abbrev pub is_followed : Act → Bool
is_followed (acts.Goto offset) = false
is_followed (acts.Switch default offsets) = false
is_followed (acts.Return kind) = false
is_followed acts.ReturnReference = false
is_followed acts.ReturnVoid = false
is_followed acts.Throw = false
is_followed _ = true

abbrev pub is_store : Act → Bool
is_store (acts.Store kind local) = true
is_store (acts.StoreReference local) = true
is_store _ = false

-- ---- what is called

-- a method that is not an instance initialization method (2.9.1)
abbrev pub other_than_init : Option MethodConstant → Option MethodConstant
other_than_init (Some c) = if bytes_eq c.name init_name then None else Some c
other_than_init None = None

-- ---- which operand only raises where it is null

-- the receiver stands beneath the arguments
abbrev pub beneath_arguments : Option MethodConstant → Option ℕ
beneath_arguments (Some c) = Some (length c.type.params)
beneath_arguments None = None

-- an array, an object or a receiver, by its place from the top of the stack
abbrev pub object_place : Method Act → Act → Option ℕ
object_place m acts.ArrayLength = Some 0
object_place m (acts.LoadElement element) = Some 1
object_place m acts.LoadReferenceElement = Some 1
object_place m (acts.StoreElement element) = Some 2
object_place m acts.StoreReferenceElement = Some 2
object_place m (acts.GetField i) = Some 0
object_place m (acts.PutField i) = Some 1
object_place m (acts.InvokeVirtual i) = beneath_arguments (method_at m.constant_pool i)
object_place m (acts.InvokeInterface i count) = beneath_arguments (method_at m.constant_pool i)
object_place m (acts.InvokeSpecial i) = beneath_arguments (other_than_init (method_at m.constant_pool i))
object_place m acts.Monitor = Some 0
object_place m _ = None

-- a cast passes what fits this type
abbrev pub cast_to : Method Act → Act → Option ReferenceType
cast_to m (acts.CheckCast i) = class_at m.constant_pool i
cast_to m _ = None

-- ---- what it answers, in place of so many operands

pub data Asks : Type 0 where
  nothing : Asks
  -- a value of the type
  a_value : (type : FieldDescriptor) (operands : ℕ) → Asks
  -- an element of the array that stands beneath the index
  an_element : Asks
  -- an address for this object
  an_address : (made_there : Object) (operands : ℕ) → Asks

-- a Dynamic constant's value is of its own type (4.4.10)
abbrev pub computed_value : Option FieldDescriptor → Asks
computed_value (Some type) = a_value type 0
computed_value None = nothing

-- a constant's value is an int, a float or an object of a class (6.5, ldc)
abbrev pub constant_value : Option FieldDescriptor → Option Entry → Asks
constant_value computed (Some (entries.Integer bits)) = a_value (primitive primitives.Int) 0
constant_value computed (Some (entries.Float bits)) = a_value (primitive primitives.Float) 0
constant_value computed (Some (entries.String text)) = a_value (class string_name) 0
constant_value computed (Some (entries.Class name)) = a_value (class class_name) 0
constant_value computed (Some (entries.MethodType descriptor)) = a_value (class method_type_name) 0
constant_value computed (Some (entries.MethodHandle kind target)) = a_value (class method_handle_name) 0
constant_value computed (Some (entries.Dynamic bootstrap name)) = computed_value computed
constant_value computed _ = nothing

-- a long or a double is as the constant has it
abbrev pub wide_constant_value : Option FieldDescriptor → Option Entry → Asks
wide_constant_value computed (Some (entries.Dynamic bootstrap name)) = computed_value computed
wide_constant_value computed _ = nothing

abbrev pub field_value : Option FieldConstant → ℕ → Asks
field_value (Some f) operands = a_value f.type operands
field_value None operands = nothing

abbrev pub result_value : Option FieldDescriptor → ℕ → Asks
result_value (Some type) operands = a_value type operands
result_value None operands = nothing

-- of a call on so many receivers, one or none
abbrev pub call_value : Option MethodConstant → ℕ → Asks
call_value (Some c) receivers = result_value c.type.result (length c.type.params + receivers)
call_value None receivers = nothing

-- of a call without a receiver
abbrev pub site_value : Option CallSite → Asks
site_value (Some c) = result_value c.type.result (length c.type.params)
site_value None = nothing

-- an object of the class, on which no constructor was called
abbrev pub new_object : Option ReferenceType → Asks
new_object (Some type) = an_address (object type made) 0
new_object None = nothing

abbrev pub new_array : Option Primitive → Asks
new_array (Some element) = an_address (object (array_type (primitive element)) ready) 1
new_array None = nothing

abbrev pub array_of : Option ReferenceType → Asks
array_of (Some type) = an_address (object (array_type (descriptor_of type)) ready) 1
array_of None = nothing

-- an array of the type, for as many counts as dimensions are made
abbrev pub array_by_counts : Option ReferenceType → ℕ → Asks
array_by_counts (Some type) counts = an_address (object type ready) counts
array_by_counts None counts = nothing

abbrev pub asks : Method Act → Act → Asks
asks m (acts.LoadConstant i) = constant_value (dynamic_type_at m.constant_pool i) (constant_at m.constant_pool i)
asks m (acts.LoadWideConstant i) =
    wide_constant_value (dynamic_type_at m.constant_pool i) (constant_at m.constant_pool i)
asks m (acts.GetStatic i) = field_value (field_at m.constant_pool i) 0
asks m (acts.GetField i) = field_value (field_at m.constant_pool i) 1
asks m (acts.InvokeStatic i) = call_value (method_at m.constant_pool i) 0
asks m (acts.InvokeVirtual i) = call_value (method_at m.constant_pool i) 1
asks m (acts.InvokeInterface i count) = call_value (method_at m.constant_pool i) 1
asks m (acts.InvokeSpecial i) = call_value (other_than_init (method_at m.constant_pool i)) 1
asks m (acts.InvokeDynamic i) = site_value (call_site_at m.constant_pool i)
asks m (acts.LoadElement element) = a_value (primitive element) 2
asks m acts.LoadReferenceElement = an_element
asks m (acts.New i) = new_object (class_at m.constant_pool i)
asks m (acts.NewArray element) = new_array element
asks m (acts.NewReferenceArray i) = array_of (class_at m.constant_pool i)
asks m (acts.NewMultiArray i dimensions) = array_by_counts (class_at m.constant_pool i) dimensions
asks m _ = nothing
