-- The rules and the machine take each instruction for the same: they name the same operands, results and offsets.
use Rattle.std.proofs.Common.{◌≡◌, ℕ, zero, suc, ℤ, Bool, true, false, not, ◌&&◌, nat_eq, List, [], ◌∷◌, Option, Some, None, if◌then◌else◌, refl}
use Rattle.names.specs.declared.base.Primitive.{Primitive}
use Rattle.names.specs.Descriptors.{FieldDescriptor, primitive, class as class_descriptor, array as array_descriptor, MethodDescriptor, field_width}
use Rattle.names.specs.ReferenceTypes.{ReferenceType, class_type, array_type, descriptor_of}
use Rattle.pool.specs.Entries as entries
use Rattle.pool.specs.Entries.{Entry}
use Rattle.pool.specs.ConstantMeanings.{constant_at, class_at, FieldConstant, field_at, MethodConstant, method_at, dynamic_type_at, CallSite, call_site_at}
use Rattle.classfile.specs.Bootstraps.{has_bootstrap}
use Rattle.classfile.specs.Methods.{Method, is_own_field}
use Rattle.insn.specs.declared.kinds.Kind.{Kind}
use Rattle.insn.specs.declared.kinds.Kind.TheVariants as kinds
use Rattle.insn.specs.Kinds.{kind_units, computed_as, same_kind}
use Rattle.insn.specs.Operators.{numeric_row}
use Rattle.insn.specs.Meanings as acts
use Rattle.insn.specs.Meanings.{Act}
use Rattle.frames.specs.VerificationType.{VerificationType, null, array}
use Rattle.frames.specs.Slots.{number_type, to_reference, descriptor_type}
use Rattle.rules.specs.TypingRules as rules
use Rattle.rules.specs.TypingRules.{ExpectedType, TypingRule}
use Rattle.rules.specs.Constants as constants
use Rattle.rules.specs.Table as table
use Rattle.machine.specs.Effects as effects
use Rattle.machine.specs.Effects.{Demand, Reply, Effect}
use Rattle.machine.proofs.Apart.{AllApart, table_apart}

-- an expected type of the rules and a demand of the machine say the same of an operand
abbrev pub IsDemanded : ExpectedType → Demand → Type 0
IsDemanded (rules.number k) (effects.of_kind l) = k ≡ l
IsDemanded (rules.assignable_to r) (effects.of_type t) = r ≡ t
IsDemanded rules.any_reference effects.some_reference = Unit {0}
IsDemanded rules.any_array effects.some_array = Unit {0}
IsDemanded (rules.any_array_for p) (effects.some_array_for q) = p ≡ q
IsDemanded (rules.own_or_assignable_to c) (effects.own_or_of d) = c ≡ d
IsDemanded _ _ = ⊥

abbrev pub AreDemanded : List ExpectedType → List Demand → Type 0
AreDemanded [] [] = Unit {0}
AreDemanded (w ∷ ws) (n ∷ ns) = IsDemanded w n × AreDemanded ws ns
AreDemanded _ _ = ⊥

abbrev pub GivesReply : List VerificationType → Reply → Type 0
GivesReply [] effects.no_reply = Unit {0}
GivesReply (t ∷ []) (effects.gives_number k) = t ≡ number_type k
GivesReply (t ∷ []) effects.gives_null = t ≡ null
GivesReply (t ∷ []) (effects.gives_answer d) = t ≡ descriptor_type d
GivesReply _ _ = ⊥

-- the width of what meets a demand
abbrev pub demand_units : Demand → ℕ
demand_units (effects.of_kind k) = kind_units k
demand_units (effects.of_type r) = 1
demand_units effects.some_reference = 1
demand_units effects.some_array = 1
demand_units (effects.some_array_for p) = 1
demand_units (effects.own_or_of c) = 1

pub record OperatesAs (ws : List ExpectedType) (gs : List VerificationType) (os : List ℤ) (b : Bool) (ns : List Demand) (r : Reply) (us : List ℤ) (c : Bool) : Type 0 where
  pub demands : AreDemanded ws ns
  pub reply : GivesReply gs r
  pub offsets : os ≡ us
  pub falls : b ≡ c

pub record GivesAs (ws : List ExpectedType) (gs : List VerificationType) (os : List ℤ) (b : Bool) (ns : List Demand) (r : ReferenceType) : Type 0 where
  pub demands : AreDemanded ws ns
  pub reply : gs ≡ to_reference r ∷ []
  pub offsets : os ≡ []
  pub falls : b ≡ true

pub record LeavesAs (ws : List ExpectedType) (os : List ℤ) (b : Bool) (ns : List Demand) : Type 0 where
  pub demands : AreDemanded ws ns
  pub offsets : os ≡ []
  pub falls : b ≡ false

abbrev pub Agrees : TypingRule → Effect → Type 0
Agrees (rules.pops ws gs os b) (effects.operates ns l r us c) = OperatesAs ws gs os b ns r us c
Agrees (rules.pops ws gs os b) (effects.makes_array ns t) = GivesAs ws gs os b ns t
Agrees (rules.pops ws gs os b) (effects.passes t) = GivesAs ws gs os b (effects.demands_of (effects.passes t)) t
Agrees (rules.pops ws gs os b) (effects.leaves ns) = LeavesAs ws os b ns
Agrees (rules.pops ws gs os b) (effects.throws x) = LeavesAs ws os b (x ∷ [])
Agrees (rules.loads w n k) (effects.reads x l) = IsDemanded w x × (n ≡ l)
Agrees (rules.stores w n k) (effects.writes x l j) = IsDemanded w x × (n ≡ l) × (k ≡ j) × (demand_units x ≡ j)
Agrees (rules.increments n) (effects.increments l) = n ≡ l
Agrees (rules.rearranges fs) (effects.moves gs) = (fs ≡ gs) × AllApart fs
Agrees rules.loads_element effects.takes_element = Unit {0}
Agrees (rules.makes c) (effects.creates d) = c ≡ d
Agrees (rules.constructs c ws) (effects.initializes d ns) = (c ≡ d) × AreDemanded ws ns
Agrees (rules.calls_special o ws gs) (effects.calls_special q ns l r) = (o ≡ q) × AreDemanded ws ns × GivesReply gs r
Agrees rules.returns effects.ends = Unit {0}
Agrees (rules.refuses r) t = Unit {0}
Agrees _ _ = ⊥

expected_demand : (t : FieldDescriptor) → IsDemanded (rules.expected_of t) (effects.demand_of t)
expected_demand (primitive p) = refl
expected_demand (class_descriptor c) = refl
expected_demand (array_descriptor c) = refl

arguments : (ts : List FieldDescriptor) (ws : List ExpectedType) (ns : List Demand) → AreDemanded ws ns → AreDemanded (rules.arguments_on ts ws) (effects.arguments_on ts ns)
arguments [] ws ns a = a
arguments (t ∷ ts) ws ns a = arguments ts (rules.expected_of t ∷ ws) (effects.demand_of t ∷ ns) (expected_demand t, a)

results : (r : Option FieldDescriptor) → GivesReply (rules.result_types r) (effects.reply_of r)
results None = tt
results (Some t) = refl

numbers : (ks : List Kind) → AreDemanded (rules.numbers ks) (effects.demands_of_kinds ks)
numbers [] = tt
numbers (k ∷ ks) = (refl, numbers ks)

sizes_agree : (n : ℕ) → AreDemanded (rules.sizes n) (effects.sizes n)
sizes_agree zero = tt
sizes_agree (suc n) = (refl, sizes_agree n)

-- a typing rule and an effect where the same test holds
allowed : (b : Bool) (p : TypingRule) (t : Effect) → Agrees p t → Agrees (rules.where_allowed b p) (effects.where_allowed b t)
allowed true p t a = a
allowed false p t a = tt

-- a typing rule where the constant has a bootstrap method, and an effect that asks for none
bootstrapped : (b : Bool) (p : TypingRule) (t : Effect) → Agrees p t → Agrees (rules.where_bootstrapped b p) t
bootstrapped true p t a = a
bootstrapped false p t a = tt

-- the same, where the instruction is judged
judged : (d b : Bool) (p : TypingRule) (t : Effect) → Agrees p t → Agrees (rules.where_judged d (rules.where_allowed b p)) (effects.where_allowed (d && b) t)
judged true b p t a = allowed b p t a
judged false b p t a = tt

none_judged : (d : Bool) → Agrees (rules.where_judged d (rules.refuses 66)) effects.stuck
none_judged true = tt
none_judged false = tt

-- ---- constants

computed_agree : (d : Bool) (units : ℕ) (b : Bool) (t : Option FieldDescriptor) → Agrees (rules.where_judged d (constants.load_dynamic units b t)) (effects.load_dynamic d units t)
computed_agree d units b (Some t) =
    let p = rules.gives (descriptor_type t) in
    let effect = effects.operates [] None (effects.gives_answer t) [] true in
    judged d (nat_eq (field_width t) units) (rules.where_bootstrapped b p) effect
    (bootstrapped b p effect (record { demands = tt; reply = refl; offsets = refl; falls = refl }))
computed_agree d units b None = none_judged d

load_constant_agree : (m : Method Act) (t : Option FieldDescriptor) (c : Option Entry) → Agrees (constants.load_constant m t c) (effects.load_constant m t c)
load_constant_agree m t (Some (entries.Integer bits)) = record { demands = tt; reply = refl; offsets = refl; falls = refl }
load_constant_agree m t (Some (entries.Float bits)) = record { demands = tt; reply = refl; offsets = refl; falls = refl }
load_constant_agree m t (Some (entries.String text)) = record { demands = tt; reply = refl; offsets = refl; falls = refl }
load_constant_agree m t (Some (entries.Class name)) = record { demands = tt; reply = refl; offsets = refl; falls = refl }
load_constant_agree m t (Some (entries.MethodType d)) = record { demands = tt; reply = refl; offsets = refl; falls = refl }
load_constant_agree m t (Some (entries.MethodHandle k target)) = record { demands = tt; reply = refl; offsets = refl; falls = refl }
load_constant_agree m t (Some (entries.Dynamic bootstrap name)) = computed_agree m.dynamic 1 (has_bootstrap m.constant_pool m.bootstraps bootstrap) t
load_constant_agree m t _ = tt

load_wide_constant_agree : (m : Method Act) (t : Option FieldDescriptor) (c : Option Entry) → Agrees (constants.load_wide_constant m t c) (effects.load_wide_constant m t c)
load_wide_constant_agree m t (Some (entries.Long high low)) = record { demands = tt; reply = refl; offsets = refl; falls = refl }
load_wide_constant_agree m t (Some (entries.Double high low)) = record { demands = tt; reply = refl; offsets = refl; falls = refl }
load_wide_constant_agree m t (Some (entries.Dynamic bootstrap name)) = computed_agree m.dynamic 2 (has_bootstrap m.constant_pool m.bootstraps bootstrap) t
load_wide_constant_agree m t _ = tt

get_static_agree : (c : Option FieldConstant) → Agrees (constants.get_static c) (effects.get_static c)
get_static_agree (Some f) = record { demands = tt; reply = refl; offsets = refl; falls = refl }
get_static_agree None = tt

put_static_agree : (c : Option FieldConstant) → Agrees (constants.put_static c) (effects.put_static c)
put_static_agree (Some f) = record { demands = (expected_demand f.type, tt); reply = tt; offsets = refl; falls = refl }
put_static_agree None = tt

get_field_agree : (c : Option FieldConstant) → Agrees (constants.get_field c) (effects.get_field c)
get_field_agree (Some f) = record { demands = (refl, tt); reply = refl; offsets = refl; falls = refl }
get_field_agree None = tt

target_agree : (m : Method Act) (f : FieldConstant) → IsDemanded (constants.target_of m f) (effects.target_of m f)
target_agree m f = go (m.is_init && is_own_field m f)
  where
    go : (b : Bool) → IsDemanded (if b then rules.own_or_assignable_to f.class else rules.expected_class f.class) (if b then effects.own_or_of f.class else effects.of_type (class_type f.class))
    go true = refl
    go false = refl

put_field_agree : (m : Method Act) (c : Option FieldConstant) → Agrees (constants.put_field m c) (effects.put_field m c)
put_field_agree m (Some f) = record { demands = (expected_demand f.type, (target_agree m f, tt)); reply = tt; offsets = refl; falls = refl }
put_field_agree m None = tt

receiverless_agree : (t : MethodDescriptor) → Agrees (rules.call_of t) (effects.call_of t)
receiverless_agree t = record { demands = arguments t.params [] [] tt; reply = results t.result; offsets = refl; falls = refl }

site_agree : (m : Method Act) (b : Bool) (c : Option CallSite) → Agrees (constants.invoke_dynamic m b c) (effects.invoke_dynamic m c)
site_agree m b (Some c) =
    judged m.dynamic (not (constants.is_special_name c)) (rules.where_bootstrapped b (rules.call_of c.type)) (effects.call_of c.type)
    (bootstrapped b (rules.call_of c.type) (effects.call_of c.type) (receiverless_agree c.type))
site_agree m b None = none_judged m.dynamic

static_agree : (n : ℕ) (c : Option MethodConstant) → Agrees (constants.invoke_static n c) (effects.invoke_static n c)
static_agree n (Some c) = allowed _ (constants.static_call c) (effects.static_call c) (receiverless_agree c.type)
static_agree n None = tt

call_agree : (r : ReferenceType) (c : MethodConstant) → Agrees (constants.call_on r c) (effects.call_on r c)
call_agree r c = record { demands = arguments c.type.params (rules.assignable_to r ∷ []) (effects.of_type r ∷ []) (refl, tt); reply = results c.type.result; offsets = refl; falls = refl }

virtual_agree : (c : Option MethodConstant) → Agrees (constants.invoke_virtual c) (effects.invoke_virtual c)
virtual_agree (Some c) = allowed _ (constants.call_on c.class c) (effects.call_on c.class c) (call_agree c.class c)
virtual_agree None = tt

interface_agree : (n : ℕ) (c : Option MethodConstant) → Agrees (constants.invoke_interface n c) (effects.invoke_interface n c)
interface_agree n (Some c) = allowed _ (constants.call_on c.class c) (effects.call_on c.class c) (call_agree c.class c)
interface_agree n None = tt

constructor_agree : (c : MethodConstant) (r : ReferenceType) → Agrees (constants.constructor_call c r) (effects.constructor_call c r)
constructor_agree c (class_type name) = allowed _ (rules.constructs name (rules.arguments_on c.type.params [])) (effects.initializes name (effects.arguments_on c.type.params [])) (refl, arguments c.type.params [] [] tt)
constructor_agree c (array_type component) = tt

special_call_agree : (n : ℕ) (me : List ℕ) (c : MethodConstant) → Agrees (constants.special_call n me c) (effects.special_call n me c)
special_call_agree n me c =
    allowed _ (rules.calls_special c.class (rules.arguments_on c.type.params (rules.expected_class me ∷ [])) (rules.result_types c.type.result)) _
    (refl, arguments c.type.params (rules.expected_class me ∷ []) (effects.of_type (class_type me) ∷ []) (refl, tt), results c.type.result)

special_agree : (n : ℕ) (me : List ℕ) (c : Option MethodConstant) → Agrees (constants.invoke_special n me c) (effects.invoke_special n me c)
special_agree n me (Some c) = go (constants.is_init_name c)
  where
    go : (b : Bool) → Agrees (if b then constants.constructor_call c c.class else constants.special_call n me c) (if b then effects.constructor_call c c.class else effects.special_call n me c)
    go true = constructor_agree c c.class
    go false = special_call_agree n me c
special_agree n me None = tt

new_agree : (c : Option ReferenceType) → Agrees (constants.new_object c) (effects.new_object c)
new_agree (Some (class_type name)) = refl
new_agree _ = tt

new_array_agree : (p : Option Primitive) → Agrees (constants.new_array p) (effects.new_array p)
new_array_agree (Some p) = record { demands = (refl, tt); reply = refl; offsets = refl; falls = refl }
new_array_agree None = tt

new_reference_array_agree : (c : Option ReferenceType) → Agrees (constants.new_reference_array c) (effects.new_reference_array c)
new_reference_array_agree (Some t) = allowed _ (rules.pops (rules.number kinds.Int ∷ []) (array (descriptor_of t) ∷ []) [] true) (effects.makes_array (effects.of_kind kinds.Int ∷ []) (array_type (descriptor_of t))) (record { demands = (refl, tt); reply = refl; offsets = refl; falls = refl })
new_reference_array_agree None = tt

new_multi_array_agree : (n : ℕ) (c : Option ReferenceType) → Agrees (constants.new_multi_array n c) (effects.new_multi_array n c)
new_multi_array_agree n (Some t) = allowed _ (rules.pops (rules.sizes n) (to_reference t ∷ []) [] true) (effects.makes_array (effects.sizes n) t) (record { demands = sizes_agree n; reply = refl; offsets = refl; falls = refl })
new_multi_array_agree n None = tt

cast_agree : (c : Option ReferenceType) → Agrees (constants.check_cast c) (effects.check_cast c)
cast_agree (Some t) = record { demands = (refl, tt); reply = refl; offsets = refl; falls = refl }
cast_agree None = tt

instance_agree : (c : Option ReferenceType) → Agrees (constants.instance_of c) (effects.instance_of c)
instance_agree (Some t) = record { demands = (refl, tt); reply = refl; offsets = refl; falls = refl }
instance_agree None = tt

-- ---- returns

return_number_agree : (t : Option FieldDescriptor) (k : Kind) → Agrees (table.return_number t k) (effects.return_number t k)
return_number_agree (Some (primitive p)) k = go (same_kind (computed_as p) k)
  where
    go : (b : Bool) → Agrees (if b then table.leaves_with (rules.number k) else rules.refuses 76) (if b then effects.leaves (effects.of_kind k ∷ []) else effects.stuck)
    go true = record { demands = (refl, tt); offsets = refl; falls = refl }
    go false = tt
return_number_agree _ k = tt

return_reference_agree : (t : Option FieldDescriptor) → Agrees (table.return_reference t) (effects.return_reference t)
return_reference_agree (Some (class_descriptor c)) = record { demands = (refl, tt); offsets = refl; falls = refl }
return_reference_agree (Some (array_descriptor c)) = record { demands = (refl, tt); offsets = refl; falls = refl }
return_reference_agree _ = tt

return_nothing_agree : (t : Option FieldDescriptor) → Agrees (table.return_nothing t) (effects.return_nothing t)
return_nothing_agree None = tt
return_nothing_agree (Some t) = tt

-- ---- all instructions

pub agree : (m : Method Act) (a : Act) → Agrees (table.typing_rule m a) (effects.effect m a)
agree m acts.Nothing = record { demands = tt; reply = tt; offsets = refl; falls = refl }
agree m (acts.Constant k) = record { demands = tt; reply = refl; offsets = refl; falls = refl }
agree m acts.ConstantNull = record { demands = tt; reply = refl; offsets = refl; falls = refl }
agree m (acts.LoadConstant i) = load_constant_agree m (dynamic_type_at m.constant_pool i) (constant_at m.constant_pool i)
agree m (acts.LoadWideConstant i) = load_wide_constant_agree m (dynamic_type_at m.constant_pool i) (constant_at m.constant_pool i)
agree m (acts.Load k n) = (refl, refl)
agree m (acts.LoadReference n) = (tt, refl)
agree m (acts.Store k n) = (refl, refl, refl, refl)
agree m (acts.StoreReference n) = (tt, refl, refl, refl)
agree m (acts.Increment n) = refl
agree m (acts.Numeric op) = record { demands = numbers (numeric_row op).taken; reply = refl; offsets = refl; falls = refl }
agree m (acts.Stack op) = (refl, table_apart op)
agree m (acts.IfInt t) = record { demands = (refl, tt); reply = tt; offsets = refl; falls = refl }
agree m (acts.IfInts t) = record { demands = (refl, (refl, tt)); reply = tt; offsets = refl; falls = refl }
agree m (acts.IfReferences t) = record { demands = (tt, (tt, tt)); reply = tt; offsets = refl; falls = refl }
agree m (acts.IfNull t) = record { demands = (tt, tt); reply = tt; offsets = refl; falls = refl }
agree m (acts.Goto t) = record { demands = tt; reply = tt; offsets = refl; falls = refl }
agree m (acts.Switch d ts) = record { demands = (refl, tt); reply = tt; offsets = refl; falls = refl }
agree m (acts.Return k) = return_number_agree m.type.result k
agree m acts.ReturnReference = return_reference_agree m.type.result
agree m acts.ReturnVoid = return_nothing_agree m.type.result
agree m (acts.GetStatic i) = get_static_agree (field_at m.constant_pool i)
agree m (acts.PutStatic i) = put_static_agree (field_at m.constant_pool i)
agree m (acts.GetField i) = get_field_agree (field_at m.constant_pool i)
agree m (acts.PutField i) = put_field_agree m (field_at m.constant_pool i)
agree m (acts.InvokeVirtual i) = virtual_agree (method_at m.constant_pool i)
agree m (acts.InvokeSpecial i) = special_agree m.major_version m.class (method_at m.constant_pool i)
agree m (acts.InvokeStatic i) = static_agree m.major_version (method_at m.constant_pool i)
agree m (acts.InvokeInterface i n) = interface_agree n (method_at m.constant_pool i)
agree m (acts.InvokeDynamic i) = site_agree m (constants.is_bootstrapped m (constant_at m.constant_pool i)) (call_site_at m.constant_pool i)
agree m (acts.New i) = new_agree (class_at m.constant_pool i)
agree m (acts.LoadElement p) = record { demands = (refl, (refl, tt)); reply = refl; offsets = refl; falls = refl }
agree m (acts.StoreElement p) = record { demands = (refl, (refl, (refl, tt))); reply = tt; offsets = refl; falls = refl }
agree m acts.LoadReferenceElement = tt
agree m acts.StoreReferenceElement = record { demands = (refl, (refl, (refl, tt))); reply = tt; offsets = refl; falls = refl }
agree m acts.ArrayLength = record { demands = (tt, tt); reply = refl; offsets = refl; falls = refl }
agree m (acts.NewArray p) = new_array_agree p
agree m (acts.NewReferenceArray i) = new_reference_array_agree (class_at m.constant_pool i)
agree m (acts.NewMultiArray i n) = new_multi_array_agree n (class_at m.constant_pool i)
agree m (acts.CheckCast i) = cast_agree (class_at m.constant_pool i)
agree m (acts.InstanceOf i) = instance_agree (class_at m.constant_pool i)
agree m acts.Throw = record { demands = (refl, tt); offsets = refl; falls = refl }
agree m acts.Monitor = record { demands = (tt, tt); reply = tt; offsets = refl; falls = refl }
agree m acts.Unsupported = tt
