-- Verdicts on methods with objects, constructors and handlers, for the eye. Nothing stands on them.
use Rattle.std.proofs.Common.{◌≡◌, ℕ, Bool, true, false, not, List, [], ◌∷◌, Option, Some, None, codes, refl}
use Rattle.names.specs.declared.base.Primitive.TheVariants as primitives
use Rattle.names.specs.Descriptors.{FieldDescriptor, primitive, class as class_descriptor}
use Rattle.names.specs.ReferenceTypes.{class_type}
use Rattle.names.specs.Reading.{read_class, read_base, read_field, read_params, read_result, read_method, field_answer, method_answer}
use Rattle.pool.specs.Entries as entries
use Rattle.pool.specs.Lookups.{entry_at, text_at, class_name_at, named, name_and_type_at, member, field_ref_at, method as method_constant, method_ref_at}
use Rattle.hierarchy.specs.Class.{ClassFact}
use Rattle.classfile.specs.Methods.{Method, ExceptionEntry}
use Rattle.insn.specs.declared.kinds.Kind.TheVariants.{Int}
use Rattle.insn.specs.declared.stack.StackOperator.TheVariants.{Pop, Dup}
use Rattle.insn.specs.Meanings as acts
use Rattle.insn.specs.Meanings.{Act, New, InvokeSpecial, LoadReference, StoreReference, ReturnReference, ReturnVoid, Constant, Load, Store, Return, Stack, GetField, LoadReferenceElement, CheckCast, InvokeVirtual}
use Rattle.layout.specs.Format as formats
use Rattle.frames.specs.Conditions.{reason, class_missing}
use Rattle.frames.specs.StackMaps as maps
use Rattle.rules.specs.Table.{typing_rule}
use Rattle.verify.specs.Verdict.{Verdict, verified, refused, verdict}

-- ---- a setting: Object, Throwable, K, A and the interface I, each below Object; B is absent

abbrev under_object : List ℕ → Bool → ClassFact
under_object name interface = record { name = name; superclass = Some (codes "java/lang/Object"); interface = interface; is_final = false; members = [] }

abbrev classes : List ClassFact
classes =
    record { name = codes "java/lang/Object"; superclass = None; interface = false; is_final = false; members = [] }
    ∷ under_object (codes "java/lang/Throwable") false ∷ under_object (codes "K") false ∷ under_object (codes "A") false ∷ under_object (codes "I") true ∷ []

-- 1 is the class A, 2 A.<init>:()V, 3 Object.<init>:()V, 4 A.x:I, 8 the class Throwable
abbrev pool : List entries.Entry
pool =
    entries.Class 5 ∷ entries.Methodref 1 6 ∷ entries.Methodref 7 6 ∷ entries.Fieldref 1 12 ∷ entries.Utf8 (codes "A") ∷ entries.NameAndType 9 10
    ∷ entries.Class 11 ∷ entries.Class 15 ∷ entries.Utf8 (codes "<init>") ∷ entries.Utf8 (codes "()V") ∷ entries.Utf8 (codes "java/lang/Object") ∷ entries.NameAndType 13 14
    ∷ entries.Utf8 (codes "x") ∷ entries.Utf8 (codes "I") ∷ entries.Utf8 (codes "java/lang/Throwable") ∷ []

-- a method of K with three units of stack and one local variable: static, or a constructor
abbrev method_that : (is_init : Bool) → List FieldDescriptor → Option FieldDescriptor → Option (List ℕ) → List ExceptionEntry → List (ℕ × Act) → Method Act
method_that is_init params result map exceptions code = record {
  code = code;
  code_length = 20;
  max_stack = 3;
  max_locals = 1;
  exceptions = exceptions;
  stack_map = map;
  constant_pool = pool;
  major_version = 52;
  class = codes "K";
  superclass = Some (codes "java/lang/Object");
  interfaces = [];
  fields = [];
  is_static = not is_init;
  is_init = is_init;
  type = record { params = params; result = result };
  bootstraps = [];
  dynamic = false;
  release = false;
}

abbrev method : List FieldDescriptor → Option FieldDescriptor → Option (List ℕ) → List ExceptionEntry → List (ℕ × Act) → Method Act
method = method_that false

abbrev of_code : Option FieldDescriptor → List (ℕ × Act) → Verdict
of_code result code = verdict typing_rule classes (method [] result None [] code)

-- a constructor of K
abbrev of_constructor : Option (List ℕ) → List ExceptionEntry → List (ℕ × Act) → Verdict
of_constructor map exceptions code = verdict typing_rule classes (method_that true [] None map exceptions code)

abbrev any_entry : ℕ → ℕ → ℕ → ExceptionEntry
any_entry from to handler = record { from = from; to = to; handler = handler; caught = class_type (codes "java/lang/Throwable") }

-- ---- objects that are not initialized

-- the older object of the same offset is forgotten, and what is returned is the newer one's place
older_object : of_code (Some (class_descriptor (codes "A")))
    ((0, New 1) ∷ (3, StoreReference 0) ∷ (4, New 1) ∷ (7, InvokeSpecial 2) ∷ (10, LoadReference 0) ∷ (11, ReturnReference) ∷ []) ≡ refused 11 (reason 62)
unfolding entry_at text_at class_name_at named name_and_type_at member field_ref_at method_constant method_ref_at read_class read_base read_field read_params read_result read_method field_answer method_answer
older_object = refl

-- one constructor initializes all copies
twice_constructed : of_code None
    ((0, New 1) ∷ (3, Stack Dup) ∷ (4, Stack Dup) ∷ (5, InvokeSpecial 2) ∷ (8, InvokeSpecial 2) ∷ (11, Stack Pop) ∷ (12, ReturnVoid) ∷ []) ≡ refused 8 (reason 62)
unfolding entry_at text_at class_name_at named name_and_type_at member field_ref_at method_constant method_ref_at read_class read_base read_field read_params read_result read_method field_answer method_answer
twice_constructed = refl

-- ---- constructors

not_ready : of_constructor None [] ((0, ReturnVoid) ∷ []) ≡ refused 0 (reason 74)
not_ready = refl

superclass_constructed : of_constructor None [] ((0, LoadReference 0) ∷ (1, InvokeSpecial 3) ∷ (4, ReturnVoid) ∷ []) ≡ verified
unfolding entry_at text_at class_name_at named name_and_type_at member field_ref_at method_constant method_ref_at read_class read_base read_field read_params read_result read_method field_answer method_answer
superclass_constructed = refl

covered_constructor : of_constructor (Some (0 ∷ 1 ∷ 69 ∷ 7 ∷ 0 ∷ 8 ∷ [])) (any_entry 1 4 5 ∷ [])
    ((0, LoadReference 0) ∷ (1, InvokeSpecial 3) ∷ (4, ReturnVoid) ∷ (5, Stack Pop) ∷ (6, ReturnVoid) ∷ []) ≡ refused 1 (reason 75)
unfolding maps.stack_map formats.times maps.map_entry maps.type_table maps.type_info entry_at text_at class_name_at named name_and_type_at member field_ref_at method_constant method_ref_at read_class read_base read_field read_params read_result read_method field_answer method_answer
covered_constructor = refl

-- ---- a `new` after code that ends, and its object declared on the stack

behind_a_return : verdict typing_rule classes (method [] None (Some (0 ∷ 1 ∷ 1 ∷ [])) [] ((0, ReturnVoid) ∷ (1, New 1) ∷ (4, Stack Pop) ∷ (5, ReturnVoid) ∷ [])) ≡ verified
unfolding maps.stack_map formats.times maps.map_entry maps.type_table maps.type_info entry_at text_at class_name_at named name_and_type_at member field_ref_at method_constant method_ref_at read_class read_base read_field read_params read_result read_method field_answer method_answer
behind_a_return = refl

declared_on_the_stack : verdict typing_rule classes (method [] None (Some (0 ∷ 1 ∷ 65 ∷ 8 ∷ 0 ∷ 1 ∷ [])) [] ((0, ReturnVoid) ∷ (1, New 1) ∷ (4, Stack Pop) ∷ (5, ReturnVoid) ∷ [])) ≡ refused 1 (reason 62)
unfolding maps.stack_map formats.times maps.map_entry maps.type_table maps.type_info entry_at text_at class_name_at named name_and_type_at member field_ref_at method_constant method_ref_at read_class read_base read_field read_params read_result read_method field_answer method_answer
declared_on_the_stack = refl

-- ---- handlers: the frame before each instruction of the range comes to them, and that at its end does not

-- iconst_0; istore_0; iload_0; ireturn; pop; iload_0; ireturn
abbrev with_handler : ExceptionEntry → Verdict
with_handler e =
    verdict typing_rule classes (method [] (Some (primitive primitives.Int)) (Some (0 ∷ 1 ∷ 255 ∷ 0 ∷ 4 ∷ 0 ∷ 1 ∷ 1 ∷ 0 ∷ 1 ∷ 7 ∷ 0 ∷ 8 ∷ [])) (e ∷ [])
    ((0, Constant Int) ∷ (1, Store Int 0) ∷ (2, Load Int 0) ∷ (3, Return Int) ∷ (4, Stack Pop) ∷ (5, Load Int 0) ∷ (6, Return Int) ∷ []))

handler_behind_the_store : with_handler (any_entry 2 3 4) ≡ verified
unfolding maps.stack_map formats.times maps.map_entry maps.type_table maps.type_info entry_at text_at class_name_at named name_and_type_at member field_ref_at method_constant method_ref_at read_class read_base read_field read_params read_result read_method field_answer method_answer
handler_behind_the_store = refl

handler_from_the_store : with_handler (any_entry 1 2 4) ≡ refused 1 (reason 73)
unfolding maps.stack_map formats.times maps.map_entry maps.type_table maps.type_info entry_at text_at class_name_at named name_and_type_at member field_ref_at method_constant method_ref_at read_class read_base read_field read_params read_result read_method field_answer method_answer
handler_from_the_store = refl

-- ---- references

class_is_missing : verdict typing_rule classes (method (class_descriptor (codes "A") ∷ []) (Some (class_descriptor (codes "B"))) None [] ((0, LoadReference 0) ∷ (1, ReturnReference) ∷ [])) ≡ refused 1 (class_missing (codes "B"))
class_is_missing = refl

interface_takes_all : verdict typing_rule classes (method (class_descriptor (codes "A") ∷ []) (Some (class_descriptor (codes "I"))) None [] ((0, LoadReference 0) ∷ (1, ReturnReference) ∷ [])) ≡ verified
interface_takes_all = refl

cast_to_a_class : verdict typing_rule classes (method (class_descriptor (codes "I") ∷ []) (Some (class_descriptor (codes "A"))) None [] ((0, LoadReference 0) ∷ (1, CheckCast 1) ∷ (4, ReturnReference) ∷ [])) ≡ verified
unfolding entry_at text_at class_name_at named name_and_type_at member field_ref_at method_constant method_ref_at read_class read_base read_field read_params read_result read_method field_answer method_answer
cast_to_a_class = refl

element_of_null : of_code (Some (class_descriptor (codes "A"))) ((0, acts.ConstantNull) ∷ (1, Constant Int) ∷ (2, LoadReferenceElement) ∷ (3, ReturnReference) ∷ []) ≡ verified
element_of_null = refl

constructor_called_as_a_method : of_code None ((0, acts.ConstantNull) ∷ (1, InvokeVirtual 2) ∷ (4, ReturnVoid) ∷ []) ≡ refused 1 (reason 66)
unfolding entry_at text_at class_name_at named name_and_type_at member field_ref_at method_constant method_ref_at read_class read_base read_field read_params read_result read_method field_answer method_answer
constructor_called_as_a_method = refl

field_of_an_object : verdict typing_rule classes (method (class_descriptor (codes "A") ∷ []) None None [] ((0, LoadReference 0) ∷ (1, GetField 4) ∷ (4, Stack Pop) ∷ (5, ReturnVoid) ∷ [])) ≡ verified
unfolding entry_at text_at class_name_at named name_and_type_at member field_ref_at method_constant method_ref_at read_class read_base read_field read_params read_result read_method field_answer method_answer
field_of_an_object = refl
