-- The effect of an instruction in the machine (JVMS 2.11, 6.5): what it takes, gives and does, family by family.
use Rattle.std.specs.Prelude.{ℕ, zero, suc, ℤ, Bool, true, false, not, ◌&&◌, ◌||◌, nat_lt, nat_eq, bytes_eq, if◌then◌else◌, List, [], ◌∷◌, map, length, Option, Some, None}
use Rattle.names.specs.declared.base.Primitive.{Primitive}
use Rattle.names.specs.declared.base.Primitive.TheVariants as primitives
use Rattle.names.specs.Names.{less_than}
use Rattle.names.specs.Descriptors.{FieldDescriptor, MethodDescriptor, primitive, class, array, field_width, method_width}
use Rattle.names.specs.ReferenceTypes.{ReferenceType, class_type, array_type, descriptor_of, dimensions_of, is_class_type}
use Rattle.names.specs.StandardNames.{object_name, init_name, throwable_name, string_name, class_name, method_type_name, method_handle_name}
use Rattle.pool.specs.Entries as entries
use Rattle.pool.specs.Entries.{Entry}
use Rattle.pool.specs.ConstantMeanings.{constant_at, class_at, FieldConstant, field_at, MethodConstant, method_at, dynamic_type_at, CallSite, call_site_at}
use Rattle.classfile.specs.Methods.{Method, is_own_field}
use Rattle.classfile.specs.Naming.{begins_with}
use Rattle.insn.specs.declared.kinds.Kind.{Kind}
use Rattle.insn.specs.declared.kinds.Kind.TheVariants as kinds
use Rattle.insn.specs.Kinds.{kind_units, computed_as, same_kind}
use Rattle.insn.specs.Operators.{numeric_row, StackForm, stack_forms}
use Rattle.insn.specs.Offsets.{led_to}
use Rattle.insn.specs.Meanings as acts
use Rattle.insn.specs.Meanings.{Act}
use Rattle.machine.specs.Values.{field_units}

-- what an instruction demands of an operand
pub data Demand : Type 0 where
  -- a number of the kind
  of_kind : (kind : Kind) → Demand
  -- null, or a ready object of a type below this one
  of_type : (type : ReferenceType) → Demand
  -- a reference to an object of any status
  some_reference : Demand
  some_array : Demand
  -- an array whose elements an instruction for this type takes
  some_array_for : (element : Primitive) → Demand
  -- the own object that is not initialized yet, or a value of the class
  own_or_of : (class : List ℕ) → Demand

-- what it pushes
pub data Reply : Type 0 where
  no_reply : Reply
  gives_number : (kind : Kind) → Reply
  gives_null : Reply
  -- any value that fits the type
  gives_answer : (type : FieldDescriptor) → Reply

-- The effect of an instruction. `live` is the place of an operand from the top down that raises where it is null.
pub data Effect : Type 0 where
  operates : (demands : List Demand) (live : Option ℕ) (reply : Reply) (offsets : List ℤ) (falls : Bool) → Effect
  reads : (demand : Demand) (local : ℕ) → Effect
  writes : (demand : Demand) (local width : ℕ) → Effect
  increments : (local : ℕ) → Effect
  moves : (forms : List StackForm) → Effect
  takes_element : Effect
  passes : (type : ReferenceType) → Effect
  creates : (class : List ℕ) → Effect
  makes_array : (demands : List Demand) (type : ReferenceType) → Effect
  initializes : (class : List ℕ) (demands : List Demand) → Effect
  calls_special : (class : ReferenceType) (demands : List Demand) (live : Option ℕ) (reply : Reply) → Effect
  -- a return with a value, an athrow, and a return without one
  leaves : (demands : List Demand) → Effect
  throws : (demand : Demand) → Effect
  ends : Effect
  -- nothing: the instruction is not supported, or names what it may not
  stuck : Effect

-- ---- words for tables

abbrev pub demand_of : FieldDescriptor → Demand
demand_of (primitive p) = of_kind (computed_as p)
demand_of (class name) = of_type (class_type name)
demand_of (array component) = of_type (array_type component)

abbrev pub demands_of_kinds : List Kind → List Demand
demands_of_kinds kinds = map of_kind kinds

-- arguments on what stands beneath them, the last one on top
abbrev pub arguments_on : List FieldDescriptor → List Demand → List Demand
arguments_on [] beneath = beneath
arguments_on (t ∷ ts) beneath = arguments_on ts (demand_of t ∷ beneath)

abbrev pub reply_of : Option FieldDescriptor → Reply
reply_of None = no_reply
reply_of (Some t) = gives_answer t

abbrev pub sizes : ℕ → List Demand
sizes zero = []
sizes (suc n) = of_kind kinds.Int ∷ sizes n

-- demands alone, no reply and no jump
abbrev takes : List Demand → Effect
takes demands = operates demands None no_reply [] true

-- a reply alone
abbrev gives : Reply → Effect
gives reply = operates [] None reply [] true

-- demands and a branch
abbrev branches : List Demand → ℤ → Effect
branches demands offset = operates demands None no_reply (offset ∷ []) true

abbrev pub where_allowed : Bool → Effect → Effect
where_allowed allowed effect = if allowed then effect else stuck

-- ---- constants

abbrev object_of : List ℕ → Effect
object_of name = gives (gives_answer (class name))

-- the value of a Dynamic constant whose type takes so many units, where such constants are judged
abbrev pub load_dynamic : Bool → ℕ → Option FieldDescriptor → Effect
load_dynamic judged units (Some type) =
    where_allowed (judged && nat_eq (field_width type) units) (gives (gives_answer type))
load_dynamic judged units None = stuck

abbrev pub load_constant : Method Act → Option FieldDescriptor → Option Entry → Effect
load_constant m computed (Some (entries.Integer bits)) = gives (gives_answer (primitive primitives.Int))
load_constant m computed (Some (entries.Float bits)) = gives (gives_answer (primitive primitives.Float))
load_constant m computed (Some (entries.String text)) = object_of string_name
load_constant m computed (Some (entries.Class name)) = object_of class_name
load_constant m computed (Some (entries.MethodType descriptor)) = object_of method_type_name
load_constant m computed (Some (entries.MethodHandle kind target)) = object_of method_handle_name
load_constant m computed (Some (entries.Dynamic bootstrap name)) = load_dynamic m.dynamic 1 computed
load_constant m computed _ = stuck

abbrev pub load_wide_constant : Method Act → Option FieldDescriptor → Option Entry → Effect
load_wide_constant m computed (Some (entries.Long high low)) = gives (gives_number kinds.Long)
load_wide_constant m computed (Some (entries.Double high low)) = gives (gives_number kinds.Double)
load_wide_constant m computed (Some (entries.Dynamic bootstrap name)) = load_dynamic m.dynamic 2 computed
load_wide_constant m computed _ = stuck

-- ---- fields

abbrev pub get_static : Option FieldConstant → Effect
get_static (Some f) = gives (gives_answer f.type)
get_static None = stuck

abbrev pub put_static : Option FieldConstant → Effect
put_static (Some f) = takes (demand_of f.type ∷ [])
put_static None = stuck

abbrev pub get_field : Option FieldConstant → Effect
get_field (Some f) = operates (of_type (class_type f.class) ∷ []) (Some 0) (gives_answer f.type) [] true
get_field None = stuck

-- in an instance initialization method the own object's fields that the class declares may be set before another
-- constructor returned
abbrev pub target_of : Method Act → FieldConstant → Demand
target_of m f = if m.is_init && is_own_field m f then own_or_of f.class else of_type (class_type f.class)

abbrev pub put_field : Method Act → Option FieldConstant → Effect
put_field m (Some f) = operates (demand_of f.type ∷ target_of m f ∷ []) (Some 1) no_reply [] true
put_field m None = stuck

-- ---- calls

abbrev pub is_init_name : MethodConstant → Bool
is_init_name c = bytes_eq c.name init_name

-- methods of interfaces are called by other instructions than invokeinterface from version 52 on
abbrev pub may_name : ℕ → Bool → Bool
may_name major interface = not interface || nat_lt 51 major

-- with the receiver the arguments take at most 255 units (4.3.3)
abbrev pub has_room_for_receiver : MethodConstant → Bool
has_room_for_receiver c = nat_lt (method_width c.type false) 255

-- arguments on a receiver
abbrev pub call_on : ReferenceType → MethodConstant → Effect
call_on receiver c =
    operates (arguments_on c.type.params (of_type receiver ∷ [])) (Some (length c.type.params))
    (reply_of c.type.result) [] true

-- without a receiver
abbrev pub call_of : MethodDescriptor → Effect
call_of type = operates (arguments_on type.params []) None (reply_of type.result) [] true

abbrev pub static_call : MethodConstant → Effect
static_call c = call_of c.type

abbrev pub invoke_static : ℕ → Option MethodConstant → Effect
invoke_static major (Some c) =
    where_allowed (is_class_type c.class && (not (is_init_name c) && may_name major c.interface)) (static_call c)
invoke_static major None = stuck

abbrev pub invoke_virtual : Option MethodConstant → Effect
invoke_virtual (Some c) = where_allowed (not c.interface && (not (is_init_name c) && has_room_for_receiver c))
    (call_on c.class c)
invoke_virtual None = stuck

-- the count is the width of the arguments and the receiver
abbrev pub may_invoke_interface : ℕ → MethodConstant → Bool
may_invoke_interface count c =
    is_class_type c.class && (c.interface
    && (not (is_init_name c) && (has_room_for_receiver c && nat_eq count (method_width c.type true))))

abbrev pub invoke_interface : ℕ → Option MethodConstant → Effect
invoke_interface count (Some c) = where_allowed (may_invoke_interface count c) (call_on c.class c)
invoke_interface count None = stuck

abbrev pub constructor_call : MethodConstant → ReferenceType → Effect
constructor_call c (class_type name) =
    where_allowed (not c.interface && has_room_for_receiver c) (initializes name (arguments_on c.type.params []))
constructor_call c (array_type component) = stuck

abbrev pub special_call : ℕ → List ℕ → MethodConstant → Effect
special_call major me c =
    where_allowed (is_class_type c.class && (has_room_for_receiver c && may_name major c.interface))
    (calls_special c.class (arguments_on c.type.params (of_type (class_type me) ∷ []))
    (Some (length c.type.params)) (reply_of c.type.result))

abbrev pub invoke_special : ℕ → List ℕ → Option MethodConstant → Effect
invoke_special major me (Some c) = if is_init_name c then constructor_call c c.class else special_call major me c
invoke_special major me None = stuck

-- names that begin with '<', as `<init>` and `<clinit>`
abbrev pub is_special_name : CallSite → Bool
is_special_name c = begins_with less_than c.name

-- where such calls are judged
abbrev pub invoke_dynamic : Method Act → Option CallSite → Effect
invoke_dynamic m (Some c) = where_allowed (m.dynamic && not (is_special_name c)) (call_of c.type)
invoke_dynamic m None = stuck

-- ---- objects and arrays

abbrev pub new_object : Option ReferenceType → Effect
new_object (Some (class_type name)) = creates name
new_object _ = stuck

abbrev pub element_type : Primitive → ReferenceType
element_type p = array_type (primitive p)

abbrev pub new_array : Option Primitive → Effect
new_array (Some p) = makes_array (of_kind kinds.Int ∷ []) (element_type p)
new_array None = stuck

-- an array of elements of a type
abbrev pub new_reference_array : Option ReferenceType → Effect
new_reference_array (Some t) =
    where_allowed (nat_lt (dimensions_of t) 255) (makes_array (of_kind kinds.Int ∷ []) (array_type (descriptor_of t)))
new_reference_array None = stuck

abbrev pub new_multi_array : ℕ → Option ReferenceType → Effect
new_multi_array n (Some t) = where_allowed (nat_lt 0 n && not (nat_lt (dimensions_of t) n)) (makes_array (sizes n) t)
new_multi_array n None = stuck

abbrev pub check_cast : Option ReferenceType → Effect
check_cast (Some t) = passes t
check_cast None = stuck

abbrev pub instance_of : Option ReferenceType → Effect
instance_of (Some t) = operates (of_type (class_type object_name) ∷ []) None (gives_number kinds.Int) [] true
instance_of None = stuck

-- ---- returns

abbrev pub return_number : Option FieldDescriptor → Kind → Effect
return_number (Some (primitive p)) kind = where_allowed (same_kind (computed_as p) kind) (leaves (of_kind kind ∷ []))
return_number _ kind = stuck

abbrev pub return_reference : Option FieldDescriptor → Effect
return_reference (Some (class name)) = leaves (of_type (class_type name) ∷ [])
return_reference (Some (array component)) = leaves (of_type (array_type component) ∷ [])
return_reference _ = stuck

abbrev pub return_nothing : Option FieldDescriptor → Effect
return_nothing None = ends
return_nothing (Some t) = stuck

-- ---- the table: each case stands below the mnemonics of its instructions (JVMS 6.5)

abbrev pub objects : ReferenceType
objects = array_type (class object_name)

abbrev pub effect : Method Act → Act → Effect
-- nop
effect m acts.Nothing = takes []
-- iconst_<i>, lconst_<l>, fconst_<f>, dconst_<d>, bipush, sipush
effect m (acts.Constant kind) = gives (gives_number kind)
-- aconst_null
effect m acts.ConstantNull = gives gives_null
-- ldc, ldc_w
effect m (acts.LoadConstant i) = load_constant m (dynamic_type_at m.constant_pool i) (constant_at m.constant_pool i)
-- ldc2_w
effect m (acts.LoadWideConstant i) =
    load_wide_constant m (dynamic_type_at m.constant_pool i) (constant_at m.constant_pool i)
-- iload, iload_<n>, lload, lload_<n>, fload, fload_<n>, dload, dload_<n>
effect m (acts.Load kind n) = reads (of_kind kind) n
-- aload, aload_<n>
effect m (acts.LoadReference n) = reads some_reference n
-- istore, istore_<n>, lstore, lstore_<n>, fstore, fstore_<n>, dstore, dstore_<n>
effect m (acts.Store kind n) = writes (of_kind kind) n (kind_units kind)
-- astore, astore_<n>
effect m (acts.StoreReference n) = writes some_reference n 1
-- iinc
effect m (acts.Increment n) = increments n
-- iadd, ladd, fadd, dadd, and so sub, mul, div, rem, neg; ishl, lshl, ishr, lshr, iushr, lushr; iand, land, ior, lor,
-- ixor, lxor; i2l, i2f, i2d, l2i, l2f, l2d, f2i, f2l, f2d, d2i, d2l, d2f, i2b, i2c, i2s; lcmp, fcmp<op>, dcmp<op>
effect m (acts.Numeric operator) =
    operates (demands_of_kinds (numeric_row operator).taken) None (gives_number (numeric_row operator).given) [] true
-- pop, pop2, dup, dup_x1, dup_x2, dup2, dup2_x1, dup2_x2, swap
effect m (acts.Stack operator) = moves (stack_forms operator)
-- if<cond>: ifeq, ifne, iflt, ifge, ifgt, ifle
effect m (acts.IfInt offset) = branches (of_kind kinds.Int ∷ []) offset
-- if_icmp<cond>: if_icmpeq, if_icmpne, if_icmplt, if_icmpge, if_icmpgt, if_icmple
effect m (acts.IfInts offset) = branches (of_kind kinds.Int ∷ of_kind kinds.Int ∷ []) offset
-- if_acmp<cond>: if_acmpeq, if_acmpne
effect m (acts.IfReferences offset) = branches (some_reference ∷ some_reference ∷ []) offset
-- ifnull, ifnonnull
effect m (acts.IfNull offset) = branches (some_reference ∷ []) offset
-- goto, goto_w
effect m (acts.Goto offset) = operates [] None no_reply (offset ∷ []) false
-- tableswitch, lookupswitch
effect m (acts.Switch default offsets) = operates (of_kind kinds.Int ∷ []) None no_reply (default ∷ offsets) false
-- ireturn, lreturn, freturn, dreturn
effect m (acts.Return kind) = return_number m.type.result kind
-- areturn
effect m acts.ReturnReference = return_reference m.type.result
-- return
effect m acts.ReturnVoid = return_nothing m.type.result
-- getstatic
effect m (acts.GetStatic i) = get_static (field_at m.constant_pool i)
-- putstatic
effect m (acts.PutStatic i) = put_static (field_at m.constant_pool i)
-- getfield
effect m (acts.GetField i) = get_field (field_at m.constant_pool i)
-- putfield
effect m (acts.PutField i) = put_field m (field_at m.constant_pool i)
-- invokevirtual
effect m (acts.InvokeVirtual i) = invoke_virtual (method_at m.constant_pool i)
-- invokespecial
effect m (acts.InvokeSpecial i) = invoke_special m.major_version m.class (method_at m.constant_pool i)
-- invokestatic
effect m (acts.InvokeStatic i) = invoke_static m.major_version (method_at m.constant_pool i)
-- invokeinterface
effect m (acts.InvokeInterface i count) = invoke_interface count (method_at m.constant_pool i)
-- invokedynamic
effect m (acts.InvokeDynamic i) = invoke_dynamic m (call_site_at m.constant_pool i)
-- new
effect m (acts.New i) = new_object (class_at m.constant_pool i)
-- iaload, laload, faload, daload, baload, caload, saload
effect m (acts.LoadElement p) =
    operates (of_kind kinds.Int ∷ some_array_for p ∷ []) (Some 1) (gives_answer (primitive p)) [] true
-- iastore, lastore, fastore, dastore, bastore, castore, sastore
effect m (acts.StoreElement p) =
    operates (of_kind (computed_as p) ∷ of_kind kinds.Int ∷ some_array_for p ∷ []) (Some 2) no_reply [] true
-- aaload
effect m acts.LoadReferenceElement = takes_element
-- aastore
effect m acts.StoreReferenceElement =
    operates (of_type (class_type object_name) ∷ of_kind kinds.Int ∷ of_type objects ∷ []) (Some 2) no_reply [] true
-- arraylength
effect m acts.ArrayLength = operates (some_array ∷ []) (Some 0) (gives_number kinds.Int) [] true
-- newarray
effect m (acts.NewArray element) = new_array element
-- anewarray
effect m (acts.NewReferenceArray i) = new_reference_array (class_at m.constant_pool i)
-- multianewarray
effect m (acts.NewMultiArray i n) = new_multi_array n (class_at m.constant_pool i)
-- checkcast
effect m (acts.CheckCast i) = check_cast (class_at m.constant_pool i)
-- instanceof
effect m (acts.InstanceOf i) = instance_of (class_at m.constant_pool i)
-- athrow
effect m acts.Throw = throws (of_type (class_type throwable_name))
-- monitorenter, monitorexit
effect m acts.Monitor = operates (some_reference ∷ []) (Some 0) no_reply [] true
-- jsr, jsr_w, ret
effect m acts.Unsupported = stuck

-- what gives an instruction's effect, in a method
abbrev pub Effects : Type 0
Effects = Method Act → Act → Effect

-- ---- where it goes

-- it goes on to the next instruction, or may do so
abbrev pub falls : Effect → Bool
falls (operates demands live reply offsets on) = on
falls (leaves demands) = false
falls (throws demand) = false
falls ends = false
falls stuck = false
falls _ = true

abbrev pub offsets_of : Effect → List ℤ
offsets_of (operates demands live reply offsets on) = offsets
offsets_of _ = []

-- the targets of an instruction that begins at an offset
abbrev pub targets : ℕ → Effect → List ℤ
targets at t = led_to at (offsets_of t)

-- ---- its operands

abbrev pub demands_of : Effect → List Demand
demands_of (operates demands live reply offsets on) = demands
demands_of (reads demand local) = []
demands_of (writes demand local width) = demand ∷ []
demands_of (increments local) = []
demands_of (moves forms) = []
demands_of takes_element = of_kind kinds.Int ∷ of_type objects ∷ []
demands_of (passes type) = of_type (class_type object_name) ∷ []
demands_of (creates name) = []
demands_of (makes_array demands type) = demands
demands_of (initializes name demands) = demands
demands_of (calls_special type demands live reply) = demands
demands_of (leaves demands) = demands
demands_of (throws demand) = demand ∷ []
demands_of ends = []
demands_of stuck = []

abbrev pub reply_units : Reply → ℕ
reply_units no_reply = 0
reply_units (gives_number kind) = kind_units kind
reply_units gives_null = 1
reply_units (gives_answer type) = field_units type
