-- Worked examples of rules, for the eye: each is checked, and nothing stands on them.
use Rattle.std.proofs.Common.{◌≡◌, ℕ, Bool, true, false, List, [], ◌∷◌, Option, Some, None, codes, refl}
use Rattle.names.specs.Descriptors.{FieldDescriptor}
use Rattle.pool.specs.Entries as entries
use Rattle.pool.specs.declared.kind.ReferenceKind.TheVariants.{GetField}
use Rattle.pool.specs.Lookups.{entry_at, text_at, class_name_at, named, name_and_type_at, member, field_ref_at, method as method_constant, method_ref_at, dynamic_at, invoke_dynamic_at}
use Rattle.names.specs.Reading.{read_class, read_base, read_field, read_params, read_result, read_method, field_answer, method_answer}
use Rattle.classfile.specs.Bootstraps.{BootstrapMethod, are_arguments, is_sound, has_bootstrap}
use Rattle.classfile.specs.Methods.{Method}
use Rattle.hierarchy.specs.Class.{ClassFact}
use Rattle.insn.specs.declared.kinds.Kind.TheVariants as kinds
use Rattle.insn.specs.declared.operators.NumericOperator.TheVariants as numerics
use Rattle.insn.specs.declared.stack.StackOperator.TheVariants as stacks
use Rattle.insn.specs.Meanings as acts
use Rattle.insn.specs.Meanings.{Act}
use Rattle.frames.specs.VerificationType.{VerificationType, top, int, long, null, class, uninit_this, uninit}
use Rattle.frames.specs.FrameFact.{FrameFact}
use Rattle.frames.specs.Conditions.{Reason, reason, class_missing, least}
use Rattle.rules.specs.Table.{typing_rule}
use Rattle.rules.specs.After.{after}
use Rattle.rules.specs.Rules.{conditions}

-- classes: Object, Throwable, A and the interface I; B is absent
abbrev object_class : ClassFact
object_class = record { name = codes "java/lang/Object"; superclass = None; interface = false; is_final = false; members = [] }

abbrev under_object : List ℕ → Bool → ClassFact
under_object name interface = record { name = name; superclass = Some (codes "java/lang/Object"); interface = interface; is_final = false; members = [] }

abbrev classes : List ClassFact
classes = object_class ∷ under_object (codes "java/lang/Throwable") false ∷ under_object (codes "K") false ∷ under_object (codes "A") false ∷ under_object (codes "I") true ∷ []

-- #1 Class A, #2 A.<init>:()V, #3 Object.<init>:()V, #4 A.x:I, #14 a call site x:()I, #17 a Dynamic constant x:I, #18 a
-- handle of A.x:I, #19 a Dynamic constant x:I of another bootstrap method
abbrev pool : List entries.Entry
pool =
    entries.Class 5 ∷ entries.Methodref 1 6 ∷ entries.Methodref 7 6 ∷ entries.Fieldref 1 12 ∷ entries.Utf8 (codes "A") ∷ entries.NameAndType 8 9
    ∷ entries.Class 10 ∷ entries.Utf8 (codes "<init>") ∷ entries.Utf8 (codes "()V") ∷ entries.Utf8 (codes "java/lang/Object") ∷ entries.Utf8 (codes "x")
    ∷ entries.NameAndType 11 13 ∷ entries.Utf8 (codes "I") ∷ entries.InvokeDynamic 0 15 ∷ entries.NameAndType 11 16 ∷ entries.Utf8 (codes "()I") ∷ entries.Dynamic 0 12 ∷ entries.MethodHandle GetField 4 ∷ entries.Dynamic 1 12 ∷ []

-- a method of K with two units of stack and one local variable; a `new` of A stands at 0
abbrev method : (result : Option FieldDescriptor) (is_init : Bool) → Method Act
method result is_init = record {
  code = (0, acts.New 1) ∷ (3, acts.ReturnVoid) ∷ [];
  code_length = 4;
  max_stack = 2;
  max_locals = 1;
  exceptions = [];
  stack_map = None;
  constant_pool = pool;
  major_version = 52;
  class = codes "K";
  superclass = Some (codes "java/lang/Object");
  interfaces = [];
  fields = [];
  is_static = false;
  is_init = is_init;
  type = record { params = []; result = result };
  bootstraps = [];
  dynamic = false;
  release = false;
}

abbrev frame : List VerificationType → List VerificationType → Bool → FrameFact
frame locals stack flag = record { locals = locals; stack = stack; flag = flag }

-- the least reason against an act, in a method without a result
abbrev judged : Act → FrameFact → Option Reason
judged act f = least (conditions classes (method None false) 0 (typing_rule (method None false) act) f)

-- two bootstrap methods; the handle of the second is a Class
abbrev bootstraps : List BootstrapMethod
bootstraps = record { handle = 18; arguments = 17 ∷ [] } ∷ record { handle = 1; arguments = [] } ∷ []

-- where dynamic calls and constants are judged
abbrev dynamic_method : Method Act
dynamic_method = record (method None false) { bootstraps = bootstraps; dynamic = true }

abbrev judged_too : Act → FrameFact → Option Reason
judged_too act f = least (conditions classes dynamic_method 0 (typing_rule dynamic_method act) f)

abbrev then_frame : Act → FrameFact → FrameFact
then_frame act f = after (method None false) 0 (typing_rule (method None false) act) f

-- ---- refusals

pop_of_nothing : judged (acts.Stack stacks.Pop) (frame (top ∷ []) [] false) ≡ Some (reason 61)
pop_of_nothing = refl

pop_of_a_long : judged (acts.Stack stacks.Pop) (frame (top ∷ []) (long ∷ []) false) ≡ Some (reason 62)
pop_of_a_long = refl

pop2_of_one_int : judged (acts.Stack stacks.Pop2) (frame (top ∷ []) (int ∷ []) false) ≡ Some (reason 61)
pop2_of_one_int = refl

swap_of_a_long : judged (acts.Stack stacks.Swap) (frame (top ∷ []) (long ∷ []) false) ≡ Some (reason 62)
swap_of_a_long = refl

load_of_another_type : judged (acts.Load kinds.Int 0) (frame (long ∷ []) [] false) ≡ Some (reason 63)
load_of_another_type = refl

load_outside : judged (acts.Load kinds.Int 1) (frame (int ∷ []) [] false) ≡ Some (reason 64)
load_outside = refl

-- a store of nothing to a local that is outside is refused for the operand
store_of_nothing_outside : judged (acts.Store kinds.Int 1) (frame (int ∷ []) [] false) ≡ Some (reason 61)
store_of_nothing_outside = refl

stack_over : judged (acts.Stack stacks.Dup2) (frame (top ∷ []) (long ∷ []) false) ≡ Some (reason 65)
stack_over = refl

constant_of_another_kind : judged (acts.GetField 1) (frame (top ∷ []) [] false) ≡ Some (reason 66)
unfolding entry_at text_at class_name_at named name_and_type_at member field_ref_at method_constant method_ref_at read_class read_base read_field read_params read_result read_method field_answer method_answer
constant_of_another_kind = refl

int_for_a_reference : judged (acts.GetField 4) (frame (top ∷ []) (int ∷ []) false) ≡ Some (reason 62)
unfolding entry_at text_at class_name_at named name_and_type_at member field_ref_at method_constant method_ref_at read_class read_base read_field read_params read_result read_method field_answer method_answer
int_for_a_reference = refl

absent_class : judged (acts.GetField 4) (frame (top ∷ []) (class (codes "B") ∷ []) false) ≡ Some (class_missing (codes "B"))
unfolding entry_at text_at class_name_at named name_and_type_at member field_ref_at method_constant method_ref_at read_class read_base read_field read_params read_result read_method field_answer method_answer
absent_class = refl

new_on_its_own_object : judged (acts.New 1) (frame (top ∷ []) (uninit 0 ∷ []) false) ≡ Some (reason 62)
unfolding entry_at text_at class_name_at named name_and_type_at member field_ref_at method_constant method_ref_at read_class read_base read_field read_params read_result read_method field_answer method_answer
new_on_its_own_object = refl

constructor_of_another_class : judged (acts.InvokeSpecial 3) (frame (top ∷ []) (uninit 0 ∷ []) false) ≡ Some (reason 62)
unfolding entry_at text_at class_name_at named name_and_type_at member field_ref_at method_constant method_ref_at read_class read_base read_field read_params read_result read_method field_answer method_answer
constructor_of_another_class = refl

not_supported : judged acts.Unsupported (frame (top ∷ []) [] false) ≡ Some (reason 60)
not_supported = refl

own_object_not_ready : least (conditions classes (method None true) 3 (typing_rule (method None true) acts.ReturnVoid) (frame (uninit_this ∷ []) [] true)) ≡ Some (reason 74)
own_object_not_ready = refl

wrong_return : judged (acts.Return kinds.Int) (frame (top ∷ []) [] false) ≡ Some (reason 76)
wrong_return = refl

-- ---- frames after

added : then_frame (acts.Numeric numerics.Iadd) (frame (top ∷ []) (int ∷ int ∷ []) false) ≡ frame (top ∷ []) (int ∷ []) false
added = refl

-- the object is initialized wherever it stands
constructed : then_frame (acts.InvokeSpecial 2) (frame (uninit 0 ∷ []) (uninit 0 ∷ uninit 0 ∷ []) false) ≡ frame (class (codes "A") ∷ []) (class (codes "A") ∷ []) false
unfolding entry_at text_at class_name_at named name_and_type_at member field_ref_at method_constant method_ref_at read_class read_base read_field read_params read_result read_method field_answer method_answer
constructed = refl

own_constructed : then_frame (acts.InvokeSpecial 3) (frame (uninit_this ∷ []) (uninit_this ∷ []) true) ≡ frame (class (codes "K") ∷ []) [] false
unfolding entry_at text_at class_name_at named name_and_type_at member field_ref_at method_constant method_ref_at read_class read_base read_field read_params read_result read_method field_answer method_answer
own_constructed = refl

forgotten : then_frame (acts.New 1) (frame (uninit 0 ∷ []) [] false) ≡ frame (top ∷ []) (uninit 0 ∷ []) false
unfolding entry_at text_at class_name_at named name_and_type_at member field_ref_at method_constant method_ref_at read_class read_base read_field read_params read_result read_method field_answer method_answer
forgotten = refl

half_overwritten : then_frame (acts.Store kinds.Int 1) (frame (long ∷ top ∷ []) (int ∷ []) false) ≡ frame (top ∷ int ∷ []) [] false
half_overwritten = refl

-- ---- rules that hold

field_read : judged (acts.GetField 4) (frame (top ∷ []) (class (codes "A") ∷ []) false) ≡ None
unfolding entry_at text_at class_name_at named name_and_type_at member field_ref_at method_constant method_ref_at read_class read_base read_field read_params read_result read_method field_answer method_answer
field_read = refl

null_read : judged (acts.GetField 4) (frame (top ∷ []) (null ∷ []) false) ≡ None
unfolding entry_at text_at class_name_at named name_and_type_at member field_ref_at method_constant method_ref_at read_class read_base read_field read_params read_result read_method field_answer method_answer
null_read = refl

constructor_called : judged (acts.InvokeSpecial 2) (frame (top ∷ []) (uninit 0 ∷ []) false) ≡ None
unfolding entry_at text_at class_name_at named name_and_type_at member field_ref_at method_constant method_ref_at read_class read_base read_field read_params read_result read_method field_answer method_answer
constructor_called = refl

own_constructor_called : judged (acts.InvokeSpecial 3) (frame (uninit_this ∷ []) (uninit_this ∷ []) true) ≡ None
unfolding entry_at text_at class_name_at named name_and_type_at member field_ref_at method_constant method_ref_at read_class read_base read_field read_params read_result read_method field_answer method_answer
own_constructor_called = refl

-- ---- dynamic calls and constants: refused, and judged where that is asked for

call_refused : judged (acts.InvokeDynamic 14) (frame (top ∷ []) [] false) ≡ Some (reason 60)
unfolding has_bootstrap is_sound are_arguments entry_at text_at named name_and_type_at dynamic_at invoke_dynamic_at read_class read_base read_field read_params read_result read_method field_answer method_answer
call_refused = refl

constant_refused : judged (acts.LoadConstant 17) (frame (top ∷ []) [] false) ≡ Some (reason 60)
unfolding has_bootstrap is_sound are_arguments entry_at text_at named name_and_type_at dynamic_at invoke_dynamic_at read_class read_base read_field read_params read_result read_method field_answer method_answer
constant_refused = refl

called_dynamically : judged_too (acts.InvokeDynamic 14) (frame (top ∷ []) [] false) ≡ None
unfolding has_bootstrap is_sound are_arguments entry_at text_at named name_and_type_at dynamic_at invoke_dynamic_at read_class read_base read_field read_params read_result read_method field_answer method_answer
called_dynamically = refl

constant_loaded : after dynamic_method 0 (typing_rule dynamic_method (acts.LoadConstant 17)) (frame (top ∷ []) [] false) ≡ frame (top ∷ []) (int ∷ []) false
unfolding has_bootstrap is_sound are_arguments entry_at text_at named name_and_type_at dynamic_at invoke_dynamic_at read_class read_base read_field read_params read_result read_method field_answer method_answer
constant_loaded = refl

constant_of_one_unit : judged_too (acts.LoadWideConstant 17) (frame (top ∷ []) [] false) ≡ Some (reason 66)
unfolding has_bootstrap is_sound are_arguments entry_at text_at named name_and_type_at dynamic_at invoke_dynamic_at read_class read_base read_field read_params read_result read_method field_answer method_answer
constant_of_one_unit = refl

constant_without_a_method_handle : judged_too (acts.LoadConstant 19) (frame (top ∷ []) [] false) ≡ Some (reason 90)
unfolding has_bootstrap is_sound are_arguments entry_at text_at named name_and_type_at dynamic_at invoke_dynamic_at read_class read_base read_field read_params read_result read_method field_answer method_answer
constant_without_a_method_handle = refl
