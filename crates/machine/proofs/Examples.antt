-- Steps worked out, one for each family of instructions, for the eye: each is checked, and nothing stands on them.
use Rattle.std.proofs.Common.{◌≡◌, ℕ, ◌≤◌, Bool, true, false, List, [], ◌∷◌, Option, Some, None, codes, inl, inr, refl, sym, subst, arith}
use Rattle.names.specs.declared.base.Primitive.TheVariants as primitives
use Rattle.names.specs.Descriptors.{primitive, class}
use Rattle.names.specs.ReferenceTypes.{class_type, array_type}
use Rattle.names.specs.Reading.{read_class, read_base, read_field, read_params, read_result, read_method, field_answer, method_answer}
use Rattle.pool.specs.Entries as entries
use Rattle.pool.specs.Lookups.{entry_at, text_at, class_name_at, named, name_and_type_at, member, field_ref_at, method as method_constant, method_ref_at}
use Rattle.hierarchy.specs.World.{World, same}
use Rattle.hierarchy.specs.Class.{ClassFact, world_of}
use Rattle.classfile.specs.Methods.{Method, ExceptionEntry}
use Rattle.insn.specs.declared.kinds.Kind.TheVariants.{Int}
use Rattle.insn.specs.declared.operators.NumericOperator.TheVariants.{Iadd}
use Rattle.insn.specs.declared.stack.StackOperator.TheVariants.{Dup}
use Rattle.insn.specs.Meanings as acts
use Rattle.insn.specs.Meanings.{Act}
use Rattle.insn.specs.Offsets.{IsAmong, led_to}
use Rattle.machine.specs.Values.{Value, number, null, reference, empty, depth_of}
use Rattle.machine.specs.Heap.{ready, made, object, Heap, with_object}
use Rattle.machine.specs.Effects as tables
use Rattle.machine.specs.Effects.{effect, demands_of}
use Rattle.machine.specs.Demands.{State, AllMeet, MeetsRest, HasRoom, AllUsable, EndsReady, IsNoFault}
use Rattle.machine.specs.Steps.{go, raise, goes_on, ended, IsBranch, Does, Happens}

-- ---- a setting: Object, Throwable, K and A, each below Object

object_class : ClassFact
object_class = record { name = codes "java/lang/Object"; superclass = None; interface = false; is_final = false; members = [] }

abbrev under_object : List ℕ → ClassFact
under_object name = record { name = name; superclass = Some (codes "java/lang/Object"); interface = false; is_final = false; members = [] }

abbrev world : World
world = world_of (object_class ∷ under_object (codes "java/lang/Throwable") ∷ under_object (codes "K") ∷ under_object (codes "A") ∷ [])

-- 1 is the class A, 2 A.<init>:()V, 3 Object.f:()V, 4 A.x:I
abbrev pool : List entries.Entry
pool =
    entries.Class 5 ∷ entries.Methodref 1 6 ∷ entries.Methodref 7 13 ∷ entries.Fieldref 1 12 ∷ entries.Utf8 (codes "A") ∷ entries.NameAndType 8 9
    ∷ entries.Class 10 ∷ entries.Utf8 (codes "<init>") ∷ entries.Utf8 (codes "()V") ∷ entries.Utf8 (codes "java/lang/Object") ∷ entries.Utf8 (codes "x")
    ∷ entries.NameAndType 11 14 ∷ entries.NameAndType 15 9 ∷ entries.Utf8 (codes "I") ∷ entries.Utf8 (codes "f") ∷ []

-- a static method of K: the act at 0, and a return at 3
abbrev method : Act → List ExceptionEntry → Method Act
method act exceptions = record {
  code = (0, act) ∷ (3, acts.ReturnVoid) ∷ [];
  code_length = 4;
  max_stack = 4;
  max_locals = 1;
  exceptions = exceptions;
  stack_map = None;
  constant_pool = pool;
  major_version = 52;
  class = codes "K";
  superclass = Some (codes "java/lang/Object");
  interfaces = [];
  fields = [];
  is_static = true;
  is_init = false;
  type = record { params = []; result = None };
  bootstraps = [];
  dynamic = false;
  release = false;
}

abbrev at : ℕ → List Value → Heap → State
at offset stack heap = record { at = offset; stack = stack; locals = empty ∷ []; heap = heap }

-- an A at 7, an array of A at 8, a K at 6 and a Throwable at 5
abbrev heap : Heap
heap =
    with_object (with_object (with_object (with_object (λ a. None) 7 (object (class_type (codes "A")) ready)) 8 (object (array_type (class (codes "A"))) ready))
    6 (object (class_type (codes "K")) ready)) 5 (object (class_type (codes "java/lang/Throwable")) ready)

-- an A at 9 that a `new` made
abbrev with_made : Heap
with_made = with_object heap 9 (object (class_type (codes "A")) made)

module _ (act : Act) (exceptions : List ExceptionEntry) (stack : List Value) (objects : Heap) where
  -- no fault, where the instruction has no targets
  fine : AllMeet world objects (demands_of (effect (method act exceptions) act)) stack → MeetsRest world (method act exceptions) (effect (method act exceptions) act) (at 0 stack objects)
      → depth_of stack ≤ 4 → HasRoom (method act exceptions) (effect (method act exceptions) act) (at 0 stack objects) → tables.offsets_of (effect (method act exceptions) act) ≡ []
      → ((e : ExceptionEntry) → IsAmong e exceptions → e.handler ≡ 3) → AllUsable objects (demands_of (effect (method act exceptions) act)) stack
      → EndsReady (method act exceptions) (effect (method act exceptions) act) (at 0 stack objects) → IsNoFault world (method act exceptions) (at 0 stack objects)
  fine meets others before room none handlers uses own = record {
    act = act;
    here = refl;
    operands = record { operands = meets; others = others; all_locals = refl; paired = tt };
    stack = record { before = before; after = room };
    control = record {
      branches = λ t i. elim (subst (λ z. IsAmong t (led_to 0 z)) none i) [ ];
      next = λ e. (3, refl, record { what = acts.ReturnVoid; here = refl });
      caught = λ e i c. record { what = acts.ReturnVoid; here = rw (handlers e i) refl };
    };
    objects = record { uses = uses };
    own_object = record { own = own };
  }

  -- from there on to the return
  on : IsNoFault world (method act exceptions) (at 0 stack objects) → (answer : Option Value) (t : State) → tables.falls (effect (method act exceptions) act) ≡ true
      → tables.offsets_of (effect (method act exceptions) act) ≡ [] → Does world (effect (method act exceptions) act) (at 0 stack objects) answer 3 t
      → Happens world (method act exceptions) (at 0 stack objects) (go None answer []) (goes_on t)
  on n answer t falls none does = (
    n,
    record {
      act = act;
      here = refl;
      unused = tt;
      to = 3;
      branches = subst (λ z. IsBranch (led_to 0 z) None 3) (sym none) refl;
      goes = inr (falls, refl);
      does = does;
    },
  )

no_entry : (e : ExceptionEntry) → IsAmong e [] → e.handler ≡ 3
no_entry e i = elim i [ ]

-- ---- numbers and the stack

added : Happens world (method (acts.Numeric Iadd) []) (at 0 (number Int ∷ number Int ∷ []) heap) (go None None []) (goes_on (at 3 (number Int ∷ []) heap))
added =
    on (acts.Numeric Iadd) [] (number Int ∷ number Int ∷ []) heap
    (fine (acts.Numeric Iadd) [] (number Int ∷ number Int ∷ []) heap (refl, (refl, tt)) tt (omega arith) (omega arith) refl no_entry (tt, (tt, tt)) tt) None
    (at 3 (number Int ∷ []) heap) refl refl (tt, (number Int ∷ [], (refl, refl), refl))

-- ---- fields

-- any int may be read from an object of A
field_read : Happens world (method (acts.GetField 4) []) (at 0 (reference 7 ∷ []) heap) (go None (Some (number Int)) []) (goes_on (at 3 (number Int ∷ []) heap))
unfolding entry_at text_at class_name_at named name_and_type_at member field_ref_at method_constant method_ref_at read_class read_base read_field read_params read_result read_method field_answer method_answer
field_read =
    on (acts.GetField 4) [] (reference 7 ∷ []) heap
    (fine (acts.GetField 4) [] (reference 7 ∷ []) heap ((class_type (codes "A"), refl, (tt, inr (inr same))), tt) tt (omega arith) (omega arith) refl no_entry ((class_type (codes "A"), refl), tt) tt)
    (Some (number Int)) (at 3 (number Int ∷ []) heap) refl refl ((λ n. elim n [ ]), (number Int ∷ [], (number Int, refl, refl, refl), refl))

-- ---- arrays

-- null may be the element of an array of A, whatever the index
element_read : Happens world (method acts.LoadReferenceElement []) (at 0 (number Int ∷ reference 8 ∷ []) heap) (go None (Some null) []) (goes_on (at 3 (null ∷ []) heap))
element_read =
    on acts.LoadReferenceElement [] (number Int ∷ reference 8 ∷ []) heap
    (fine acts.LoadReferenceElement [] (number Int ∷ reference 8 ∷ []) heap (refl, ((array_type (class (codes "A")), refl, (tt, inl refl)), tt)) tt (omega arith) tt refl no_entry (tt, ((array_type (class (codes "A")), refl), tt)) tt)
    (Some null) (at 3 (null ∷ []) heap) refl refl (number Int, 8, class (codes "A"), [], null, refl, refl, tt, refl, refl)

array_made : Happens world (method (acts.NewArray (Some primitives.Int)) []) (at 0 (number Int ∷ []) heap) (go None (Some (reference 10)) [])
    (goes_on (at 3 (reference 10 ∷ []) (with_object heap 10 (object (array_type (primitive primitives.Int)) ready))))
array_made =
    on (acts.NewArray (Some primitives.Int)) [] (number Int ∷ []) heap
    (fine (acts.NewArray (Some primitives.Int)) [] (number Int ∷ []) heap (refl, tt) tt (omega arith) (omega arith) refl no_entry (tt, tt) tt)
    (Some (reference 10)) (at 3 (reference 10 ∷ []) (with_object heap 10 (object (array_type (primitive primitives.Int)) ready))) refl refl (10, refl, refl, omega arith, refl)

-- ---- casts

cast : Happens world (method (acts.CheckCast 1) []) (at 0 (reference 7 ∷ []) heap) (go None None []) (goes_on (at 3 (reference 7 ∷ []) heap))
unfolding entry_at text_at class_name_at named name_and_type_at member field_ref_at method_constant method_ref_at read_class read_base read_field read_params read_result read_method field_answer method_answer
cast =
    on (acts.CheckCast 1) [] (reference 7 ∷ []) heap
    (fine (acts.CheckCast 1) [] (reference 7 ∷ []) heap ((class_type (codes "A"), refl, (tt, inl refl)), tt) tt (omega arith) tt refl no_entry ((class_type (codes "A"), refl), tt) tt)
    None (at 3 (reference 7 ∷ []) heap) refl refl (reference 7, [], refl, (class_type (codes "A"), refl, (tt, inr (inr same))), refl, refl)

-- ---- objects

-- the object is made, and no constructor was called on it
made_new : Happens world (method (acts.New 1) []) (at 0 [] heap) (go None (Some (reference 9)) []) (goes_on (at 3 (reference 9 ∷ []) with_made))
unfolding entry_at text_at class_name_at named name_and_type_at member field_ref_at method_constant method_ref_at read_class read_base read_field read_params read_result read_method field_answer method_answer
made_new =
    on (acts.New 1) [] [] heap (fine (acts.New 1) [] [] heap tt tt (omega arith) (omega arith) refl no_entry tt tt) (Some (reference 9)) (at 3 (reference 9 ∷ []) with_made) refl refl
    (9, refl, refl, omega arith, refl)

-- a constructor that returns makes it ready, wherever it stands
constructed : Happens world (method (acts.InvokeSpecial 2) []) (at 0 (reference 9 ∷ reference 9 ∷ []) with_made) (go None None [])
    (goes_on (at 3 (reference 9 ∷ []) (with_object with_made 9 (object (class_type (codes "A")) ready))))
unfolding entry_at text_at class_name_at named name_and_type_at member field_ref_at method_constant method_ref_at read_class read_base read_field read_params read_result read_method field_answer method_answer
constructed =
    on (acts.InvokeSpecial 2) [] (reference 9 ∷ reference 9 ∷ []) with_made
    (fine (acts.InvokeSpecial 2) [] (reference 9 ∷ reference 9 ∷ []) with_made tt (record { address = 9; rest = reference 9 ∷ []; here = refl; uninitialized = inl (record { here = refl }) }) (omega arith) tt refl no_entry tt tt)
    None (at 3 (reference 9 ∷ []) (with_object with_made 9 (object (class_type (codes "A")) ready))) refl refl
    (9, reference 9 ∷ [], class_type (codes "A"), made, refl, refl, refl, refl)

-- ---- calls

called_static : Happens world (method (acts.InvokeStatic 3) []) (at 0 (null ∷ []) heap) (go None None []) (goes_on (at 3 (null ∷ []) heap))
unfolding entry_at text_at class_name_at named name_and_type_at member field_ref_at method_constant method_ref_at read_class read_base read_field read_params read_result read_method field_answer method_answer
called_static =
    on (acts.InvokeStatic 3) [] (null ∷ []) heap (fine (acts.InvokeStatic 3) [] (null ∷ []) heap tt tt (omega arith) (omega arith) refl no_entry tt tt) None (at 3 (null ∷ []) heap) refl refl
    (tt, ([], (refl, refl), refl))

-- a method of Object on an object of the current class
called_special : Happens world (method (acts.InvokeSpecial 3) []) (at 0 (reference 6 ∷ []) heap) (go None None []) (goes_on (at 3 [] heap))
unfolding entry_at text_at class_name_at named name_and_type_at member field_ref_at method_constant method_ref_at read_class read_base read_field read_params read_result read_method field_answer method_answer
called_special =
    on (acts.InvokeSpecial 3) [] (reference 6 ∷ []) heap
    (fine (acts.InvokeSpecial 3) [] (reference 6 ∷ []) heap ((class_type (codes "K"), refl, (tt, inr (inr same))), tt) (tt, inl refl) (omega arith) (omega arith) refl no_entry ((class_type (codes "K"), refl), tt) tt)
    None (at 3 [] heap) refl refl ((λ n. elim n [ ]), ([], (refl, refl), refl))

-- ---- exceptions

abbrev any_entry : ExceptionEntry
any_entry = record { from = 0; to = 3; handler = 3; caught = class_type (codes "java/lang/Throwable") }

only_entry : (e : ExceptionEntry) → IsAmong e (any_entry ∷ []) → e.handler ≡ 3
only_entry e (inl i) = subst (λ z. z.handler ≡ 3) (sym i) refl
only_entry e (inr i) = elim i [ ]

-- what is caught stands alone on the stack
caught : Happens world (method acts.Nothing (any_entry ∷ [])) (at 0 (number Int ∷ []) heap) (raise 5 [] (Some 0)) (goes_on (at 3 (reference 5 ∷ []) heap))
caught = (
  fine acts.Nothing (any_entry ∷ []) (number Int ∷ []) heap tt tt (omega arith) (omega arith) refl only_entry tt tt,
  record {
    raised = record { unused = tt; type = class_type (codes "java/lang/Throwable"); here = refl; throwable = (tt, inr (inr same)) };
    by_entry = any_entry;
    which = refl;
    covered = refl;
    catches = (tt, inr (inr same));
    result = refl;
  },
)
