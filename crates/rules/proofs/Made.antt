-- No instruction makes an object of a class but `new`, and none calls constructors but `invokespecial`.
use Rattle.std.proofs.Common.{◌≡◌, ℕ, ◌+◌, Bool, true, false, List, [], ◌∷◌, length, drop, Option, Some, None, refl, sym, ap, ◌∙◌, arith, if◌then◌else◌}
use Rattle.std.specs.Prelude.{not, ◌&&◌}
use Rattle.names.specs.Descriptors.{FieldDescriptor}
use Rattle.names.specs.ReferenceTypes.{ReferenceType, class_type, array_type, is_class_type}
use Rattle.classfile.specs.Methods.{Method, class_named}
use Rattle.pool.specs.ConstantMeanings.{MethodConstant, class_at, method_at}
use Rattle.insn.specs.Meanings as acts
use Rattle.insn.specs.Meanings.{Act}
use Rattle.insn.specs.OperandStacks.{beneath}
use Rattle.frames.specs.FrameFact.{FrameFact}
use Rattle.frames.specs.Marks.{new_index}
use Rattle.frames.specs.VerificationType.{VerificationType}
use Rattle.rules.specs.Constants.{new_object, invoke_special, constructor_call, special_call, is_init_name, has_room_for_receiver, may_name}
use Rattle.rules.specs.Rules.{constructs_own}
use Rattle.rules.specs.TypingRules.{ExpectedType, expected_of, arguments_on, TypingRule, pops, loads, stores, increments, rearranges, loads_element, makes, constructs, calls_special, returns, refuses, where_allowed}
use Rattle.rules.specs.Table.{typing_rule, class_made, made_by}
use Rattle.rules.specs.Ways.{keeps_locals, special_index}
use Rattle.rules.proofs.KeptLocals.{changes_none, by_typing_rule}

no_class : (p : TypingRule) → changes_none p ≡ true → None ≡ class_made p
no_class (pops expected_types gives offsets on) e = refl
no_class (loads expected n width) e = refl
no_class (stores expected n width) e = refl
no_class (increments n) e = refl
no_class (rearranges forms) e = refl
no_class loads_element e = refl
no_class (makes name) e = cc
no_class (constructs name expected_types) e = refl
no_class (calls_special type expected_types gives) e = refl
no_class returns e = refl
no_class (refuses n) e = refl

object_class : (t : Option ReferenceType) → class_named t ≡ class_made (new_object t)
object_class None = refl
object_class (Some (class_type name)) = refl
object_class (Some (array_type component)) = refl

allowed : (b : Bool) (p : TypingRule) → None ≡ class_made p → None ≡ class_made (where_allowed b p)
allowed true p e = e
allowed false p e = refl

constructor_class : (c : MethodConstant) (t : ReferenceType) → None ≡ class_made (constructor_call c t)
constructor_class c (class_type name) = allowed (not c.interface && has_room_for_receiver c) _ refl
constructor_class c (array_type component) = refl

either : (b : Bool) (p q : TypingRule) → None ≡ class_made p → None ≡ class_made q → None ≡ class_made (if b then p else q)
either true p q e f = e
either false p q e f = f

special_class : (major : ℕ) (me : List ℕ) (c : Option MethodConstant) → None ≡ class_made (invoke_special major me c)
special_class major me None = refl
special_class major me (Some c) =
    either (is_init_name c) (constructor_call c c.class) (special_call major me c) (constructor_class c c.class)
    (allowed (is_class_type c.class && (has_room_for_receiver c && may_name major c.interface)) _ refl)

-- by its index
abbrev pub class_of_index : Method Act → Option ℕ → Option (List ℕ)
class_of_index m None = None
class_of_index m (Some i) = class_named (class_at m.constant_pool i)

plain : (m : Method Act) (a : Act) → keeps_locals a ≡ true → None ≡ class_made (typing_rule m a)
plain m a e = no_class (typing_rule m a) (by_typing_rule m a e)

pub index_made : (m : Method Act) (o : Option Act) → class_of_index m (new_index o) ≡ made_by m o
index_made m None = refl
index_made m (Some acts.Nothing) = plain m acts.Nothing refl
index_made m (Some (acts.Constant kind)) = plain m (acts.Constant kind) refl
index_made m (Some acts.ConstantNull) = plain m acts.ConstantNull refl
index_made m (Some (acts.LoadConstant i)) = plain m (acts.LoadConstant i) refl
index_made m (Some (acts.LoadWideConstant i)) = plain m (acts.LoadWideConstant i) refl
index_made m (Some (acts.Load kind n)) = plain m (acts.Load kind n) refl
index_made m (Some (acts.LoadReference n)) = plain m (acts.LoadReference n) refl
index_made m (Some (acts.Store kind n)) = refl
index_made m (Some (acts.StoreReference n)) = refl
index_made m (Some (acts.Increment n)) = plain m (acts.Increment n) refl
index_made m (Some (acts.Numeric operator)) = plain m (acts.Numeric operator) refl
index_made m (Some (acts.Stack operator)) = plain m (acts.Stack operator) refl
index_made m (Some (acts.IfInt offset)) = plain m (acts.IfInt offset) refl
index_made m (Some (acts.IfInts offset)) = plain m (acts.IfInts offset) refl
index_made m (Some (acts.IfReferences offset)) = plain m (acts.IfReferences offset) refl
index_made m (Some (acts.IfNull offset)) = plain m (acts.IfNull offset) refl
index_made m (Some (acts.Goto offset)) = plain m (acts.Goto offset) refl
index_made m (Some (acts.Switch default offsets)) = plain m (acts.Switch default offsets) refl
index_made m (Some (acts.Return kind)) = plain m (acts.Return kind) refl
index_made m (Some acts.ReturnReference) = plain m acts.ReturnReference refl
index_made m (Some acts.ReturnVoid) = plain m acts.ReturnVoid refl
index_made m (Some (acts.GetStatic i)) = plain m (acts.GetStatic i) refl
index_made m (Some (acts.PutStatic i)) = plain m (acts.PutStatic i) refl
index_made m (Some (acts.GetField i)) = plain m (acts.GetField i) refl
index_made m (Some (acts.PutField i)) = plain m (acts.PutField i) refl
index_made m (Some (acts.InvokeVirtual i)) = plain m (acts.InvokeVirtual i) refl
index_made m (Some (acts.InvokeSpecial i)) = special_class m.major_version m.class (method_at m.constant_pool i)
index_made m (Some (acts.InvokeStatic i)) = plain m (acts.InvokeStatic i) refl
index_made m (Some (acts.InvokeInterface i count)) = plain m (acts.InvokeInterface i count) refl
index_made m (Some (acts.InvokeDynamic i)) = plain m (acts.InvokeDynamic i) refl
index_made m (Some (acts.New i)) = object_class (class_at m.constant_pool i)
index_made m (Some (acts.LoadElement p)) = plain m (acts.LoadElement p) refl
index_made m (Some (acts.StoreElement p)) = plain m (acts.StoreElement p) refl
index_made m (Some acts.LoadReferenceElement) = plain m acts.LoadReferenceElement refl
index_made m (Some acts.StoreReferenceElement) = plain m acts.StoreReferenceElement refl
index_made m (Some acts.ArrayLength) = plain m acts.ArrayLength refl
index_made m (Some (acts.NewArray element)) = plain m (acts.NewArray element) refl
index_made m (Some (acts.NewReferenceArray i)) = plain m (acts.NewReferenceArray i) refl
index_made m (Some (acts.NewMultiArray i n)) = plain m (acts.NewMultiArray i n) refl
index_made m (Some (acts.CheckCast i)) = plain m (acts.CheckCast i) refl
index_made m (Some (acts.InstanceOf i)) = plain m (acts.InstanceOf i) refl
index_made m (Some acts.Throw) = plain m acts.Throw refl
index_made m (Some acts.Monitor) = plain m acts.Monitor refl
index_made m (Some acts.Unsupported) = plain m acts.Unsupported refl

-- ---- constructors called on the own object

no_call : (p : TypingRule) (f : FrameFact) → changes_none p ≡ true → constructs_own p f ≡ false
no_call (pops expected_types gives offsets on) f e = refl
no_call (loads expected n width) f e = refl
no_call (stores expected n width) f e = cc
no_call (increments n) f e = refl
no_call (rearranges forms) f e = refl
no_call loads_element f e = refl
no_call (makes name) f e = cc
no_call (constructs name expected_types) f e = cc
no_call (calls_special type expected_types gives) f e = refl
no_call returns f e = refl
no_call (refuses n) f e = refl

pub never : (m : Method Act) (a : Act) (f : FrameFact) → keeps_locals a ≡ true → constructs_own (typing_rule m a) f ≡ false
never m a f e = no_call (typing_rule m a) f (by_typing_rule m a e)

never_new : (f : FrameFact) (t : Option ReferenceType) → constructs_own (new_object t) f ≡ false
never_new f None = refl
never_new f (Some (class_type name)) = refl
never_new f (Some (array_type component)) = refl

-- by the method that is named
abbrev pub own_of_index : Method Act → FrameFact → Option ℕ → Bool
own_of_index m f None = false
own_of_index m f (Some i) = constructs_own (invoke_special m.major_version m.class (method_at m.constant_pool i)) f

pub own_by_index : (m : Method Act) (a : Act) (f : FrameFact) → constructs_own (typing_rule m a) f ≡ own_of_index m f (special_index a)
own_by_index m acts.Nothing f = never m acts.Nothing f refl
own_by_index m (acts.Constant kind) f = never m (acts.Constant kind) f refl
own_by_index m acts.ConstantNull f = never m acts.ConstantNull f refl
own_by_index m (acts.LoadConstant i) f = never m (acts.LoadConstant i) f refl
own_by_index m (acts.LoadWideConstant i) f = never m (acts.LoadWideConstant i) f refl
own_by_index m (acts.Load kind n) f = never m (acts.Load kind n) f refl
own_by_index m (acts.LoadReference n) f = never m (acts.LoadReference n) f refl
own_by_index m (acts.Store kind n) f = refl
own_by_index m (acts.StoreReference n) f = refl
own_by_index m (acts.Increment n) f = never m (acts.Increment n) f refl
own_by_index m (acts.Numeric operator) f = never m (acts.Numeric operator) f refl
own_by_index m (acts.Stack operator) f = never m (acts.Stack operator) f refl
own_by_index m (acts.IfInt offset) f = never m (acts.IfInt offset) f refl
own_by_index m (acts.IfInts offset) f = never m (acts.IfInts offset) f refl
own_by_index m (acts.IfReferences offset) f = never m (acts.IfReferences offset) f refl
own_by_index m (acts.IfNull offset) f = never m (acts.IfNull offset) f refl
own_by_index m (acts.Goto offset) f = never m (acts.Goto offset) f refl
own_by_index m (acts.Switch default offsets) f = never m (acts.Switch default offsets) f refl
own_by_index m (acts.Return kind) f = never m (acts.Return kind) f refl
own_by_index m acts.ReturnReference f = never m acts.ReturnReference f refl
own_by_index m acts.ReturnVoid f = never m acts.ReturnVoid f refl
own_by_index m (acts.GetStatic i) f = never m (acts.GetStatic i) f refl
own_by_index m (acts.PutStatic i) f = never m (acts.PutStatic i) f refl
own_by_index m (acts.GetField i) f = never m (acts.GetField i) f refl
own_by_index m (acts.PutField i) f = never m (acts.PutField i) f refl
own_by_index m (acts.InvokeVirtual i) f = never m (acts.InvokeVirtual i) f refl
own_by_index m (acts.InvokeSpecial i) f = refl
own_by_index m (acts.InvokeStatic i) f = never m (acts.InvokeStatic i) f refl
own_by_index m (acts.InvokeInterface i count) f = never m (acts.InvokeInterface i count) f refl
own_by_index m (acts.InvokeDynamic i) f = never m (acts.InvokeDynamic i) f refl
own_by_index m (acts.New i) f = never_new f (class_at m.constant_pool i)
own_by_index m (acts.LoadElement p) f = never m (acts.LoadElement p) f refl
own_by_index m (acts.StoreElement p) f = never m (acts.StoreElement p) f refl
own_by_index m acts.LoadReferenceElement f = never m acts.LoadReferenceElement f refl
own_by_index m acts.StoreReferenceElement f = never m acts.StoreReferenceElement f refl
own_by_index m acts.ArrayLength f = never m acts.ArrayLength f refl
own_by_index m (acts.NewArray element) f = never m (acts.NewArray element) f refl
own_by_index m (acts.NewReferenceArray i) f = never m (acts.NewReferenceArray i) f refl
own_by_index m (acts.NewMultiArray i n) f = never m (acts.NewMultiArray i n) f refl
own_by_index m (acts.CheckCast i) f = never m (acts.CheckCast i) f refl
own_by_index m (acts.InstanceOf i) f = never m (acts.InstanceOf i) f refl
own_by_index m acts.Throw f = never m acts.Throw f refl
own_by_index m acts.Monitor f = never m acts.Monitor f refl
own_by_index m acts.Unsupported f = never m acts.Unsupported f refl

-- ---- an item beneath arguments

pub beneath_drops : {A B : Type 0} (ws : List A) (ts : List B) → beneath ws ts ≡ drop (length ws) ts
beneath_drops [] ts = drop_none ts
  where
    drop_none : {B : Type 0} (ts : List B) → ts ≡ drop 0 ts
    drop_none [] = refl
    drop_none (t ∷ ts) = refl
beneath_drops (w ∷ ws) [] = refl
beneath_drops (w ∷ ws) (t ∷ ts) = beneath_drops ws ts

pub count_on : (ts : List FieldDescriptor) (ws : List ExpectedType) → length (arguments_on ts ws) ≡ length ts + length ws
count_on [] ws = omega arith
count_on (t ∷ ts) ws = omega (arith, count_on ts (expected_of t ∷ ws))

pub beneath_arguments : (ts : List FieldDescriptor) (n : ℕ) (stack : List VerificationType) → n ≡ length ts → drop n stack ≡ beneath (arguments_on ts []) stack
beneath_arguments ts n stack e =
    (let same : n ≡ length (arguments_on ts []) = omega (arith, e, count_on ts []) in ap (λ k. drop k stack) same) ∙ sym (beneath_drops (arguments_on ts []) stack)

pub named_object : (t : Option ReferenceType) (name : List ℕ) → class_named t ≡ Some name → new_object t ≡ makes name
named_object None name e = cc
named_object (Some (class_type n)) name e = let same : n ≡ name = cc in ap makes same
named_object (Some (array_type component)) name e = cc
