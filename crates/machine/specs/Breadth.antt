-- The machine leaves nothing out and adds nothing: each way to go, each answer of its type, each exception and each
-- world has its place in a run, and no other way to go, answer or exception has one (JVMS 2.6, 2.10, 2.11, 4.10.1.2).
-- So a theorem about all runs is about all that a real machine may do. Ways to go, returns, receivers, answers, new
-- objects and what is not null have words of their own, by the act and the constant that it names, and so have the
-- values of a type: a table of the machine that takes another operand or gives another answer then breaks a law, and
-- does not change it. Which type is below which is the machine's own word, which the law of what fits ties to the
-- verifier's.
use Rattle.std.specs.Prelude.{◌≡◌, ◌≢◌, ℕ, ℤ, ◌<◌, ◌≤◌, ◌^◌, pos, true, false, List, [], ◌∷◌, drop, slice_get, bytes_eq, if◌then◌else◌, Option, Some, None, ◌⊎◌}
use Rattle.names.specs.Descriptors.{FieldDescriptor}
use Rattle.names.specs.ReferenceTypes.{ReferenceType, class_type, array_type, descriptor_of, dimensions_of}
use Rattle.names.specs.StandardNames.{object_name, cloneable_name, serializable_name, throwable_name}
use Rattle.classfile.specs.Methods.{Method, ExceptionEntry, covers}
use Rattle.hierarchy.specs.World.{Entry, World}
use Rattle.hierarchy.specs.Class.{ClassFact, world_of, IsAbsent}
use Rattle.hierarchy.specs.Rules.{IsHierarchy}
use Rattle.hierarchy.specs.Extends.{Extends}
use Rattle.insn.specs.Meanings.{Act}
use Rattle.insn.specs.Offsets.{at_offset, next_offset, led_to, IsAmong}
use Rattle.machine.specs.Values.{Value, null, reference}
use Rattle.machine.specs.Heap.{ready, object, Heap, IsBelow, with_fresh}
use Rattle.machine.specs.ByType.{IsOf}
use Rattle.machine.specs.ByAct.{jumps, is_return, is_throw, is_followed, is_store, object_place, cast_to, Asks, nothing, a_value, an_element, an_address, asks}
use Rattle.machine.specs.Demands.{State, IsNoFault}
use Rattle.machine.specs.Steps.{go, raise, goes_on, ended, Happens}

-- ---- what an instruction may come to

-- the state with the objects that come into being before a step
abbrev pub with_new : State → List (ℕ × ReferenceType) → State
with_new s fresh = record { at = s.at; stack = s.stack; locals = s.locals; heap = with_fresh s.heap fresh }

-- objects that come into being: at addresses of 32 bits that are unused and differ, of any types of at most 255
-- dimensions
abbrev pub AreNew : Heap → List (ℕ × ReferenceType) → Type 0
AreNew heap [] = Unit {0}
AreNew heap (x ∷ xs) =
    (heap x.0 ≡ None) × (x.0 < 2 ^ 32) × (dimensions_of x.1 ≤ 255)
    × ((y : ℕ × ReferenceType) → IsAmong y xs → y.0 ≢ x.0) × AreNew heap xs

-- the item of this place of the stack is not null, where one is asked for
abbrev pub IsNotNull : Option ℕ → List Value → Type 0
IsNotNull None vs = Unit {0}
IsNotNull (Some i) vs = slice_get vs i ≢ Some null

-- a cast passes the item on top, where there is a cast
abbrev pub Passes : World → Heap → Option ReferenceType → List Value → Type 0
Passes world heap None vs = Unit {0}
Passes world heap (Some type) [] = ⊥
Passes world heap (Some type) (v ∷ vs) = IsOf world heap (descriptor_of type) v

-- The instruction may go on: it is neither a return nor an athrow, what only raises where it is null is not, and a cast
-- passes.
abbrev pub MayGoOn : World → Method Act → Act → State → Type 0
MayGoOn world m act s =
    (is_return act ≡ false) × (is_throw act ≡ false) × IsNotNull (object_place m act) s.stack
    × Passes world s.heap (cast_to m act) s.stack

-- an element of the array that stands beneath the index
pub record IsElement (world : World) (s : State) (answer : Option Value) : Type 0 where
  pub address : ℕ
  pub component : FieldDescriptor
  pub value : Value
  pub array : slice_get s.stack 1 ≡ Some (reference address)
  pub type : s.heap address ≡ Some (object (array_type component) ready)
  pub fits : IsOf world s.heap component value
  pub is : answer ≡ Some value

pub record IsUnused (s : State) (answer : Option Value) : Type 0 where
  pub address : ℕ
  pub is : answer ≡ Some (reference address)
  pub unused : s.heap address ≡ None
  pub in_range : address < 2 ^ 32

-- The values that may be answered: each value that fits the type that is asked, or the component of an array; each
-- address that is unused; and nothing where nothing is asked.
abbrev pub IsAnswer : World → State → Asks → Option Value → Type 0
IsAnswer world s nothing answer = answer ≡ None
IsAnswer world s (a_value type operands) answer = (v : Value) × (answer ≡ Some v) × IsOf world s.heap type v
IsAnswer world s an_element answer = IsElement world s answer
IsAnswer world s (an_address made_there operands) answer = IsUnused s answer

-- no new object is made by the instruction itself
abbrev pub MakesNone : Asks → Type 0
MakesNone (an_address made_there operands) = ⊥
MakesNone _ = Unit {0}

-- a way to go: a target, or the next start where the instruction falls through
abbrev pub IsWay : Method Act → ℕ → Act → ℕ → Type 0
IsWay m from act to = IsAmong (pos to) (led_to from (jumps act))
    ⊎ ((is_followed act ≡ true) × (next_offset m.code from ≡ Some to))

-- the offset that is chosen is told exactly by a branch or switch
abbrev pub IsTold : List ℤ → Option ℕ → ℕ → Type 0
IsTold [] branch to = branch ≡ None
IsTold (offset ∷ offsets) branch to = branch ≡ Some to

-- ---- nothing is left out

-- a step to this offset, by this answer and with these new objects
pub record HasStep (world : World) (m : Method Act) (s : State) (act : Act)
    (fresh : List (ℕ × ReferenceType)) (answer : Option Value) (to : ℕ) : Type 0 where
  pub branch : Option ℕ
  pub told : IsTold (jumps act) branch to
  pub state : State
  pub happens : Happens world m s (go branch answer fresh) (goes_on state)

-- an exception to each entry that covers the instruction and catches it
abbrev pub HasCatches : World → Method Act → State → ℕ → ReferenceType → List (ℕ × ReferenceType) → Type 0
HasCatches world m s address type fresh =
    (entry : ℕ) (e : ExceptionEntry) → slice_get m.exceptions entry ≡ Some e → covers e s.at ≡ true
    → IsBelow world type e.caught
    → (t : State) × Happens world m s (raise address fresh (Some entry)) (goes_on t)

-- what may come of an instruction at a state, where these objects come into being
pub record HasChoices (world : World) (m : Method Act) (s : State) (act : Act)
    (fresh : List (ℕ × ReferenceType)) : Type 0 where
  -- to every target, and on to the next start, with every answer
  pub steps : MayGoOn world m act (with_new s fresh)
      → (answer : Option Value) → IsAnswer world (with_new s fresh) (asks m act) answer
      → (to : ℕ) → IsWay m s.at act to → HasStep world m s act fresh answer to
  -- and there is somewhere to go
  pub somewhere : MayGoOn world m act (with_new s fresh) → (to : ℕ) × IsWay m s.at act to
  -- and something to answer; an object that the instruction makes needs an address that is unused
  pub answered : MayGoOn world m act (with_new s fresh) → MakesNone (asks m act)
      → (answer : Option Value) × IsAnswer world (with_new s fresh) (asks m act) answer
  pub returns : is_return act ≡ true → Happens world m s (go None None fresh) ended
  -- every Throwable that is ready is raised, uncaught and to every entry that catches it
  pub raises : (address : ℕ) (type : ReferenceType) → with_fresh s.heap fresh address ≡ Some (object type ready)
      → IsBelow world type (class_type throwable_name)
      → Happens world m s (raise address fresh None) ended × HasCatches world m s address type fresh

abbrev pub StepBreadth : Type 0
StepBreadth =
    (world : World) (m : Method Act) (s : State) → IsNoFault world m s → (act : Act) → at_offset m.code s.at ≡ Some act
    → (fresh : List (ℕ × ReferenceType)) → AreNew s.heap fresh → HasChoices world m s act fresh

-- ---- nothing else happens

-- the answer stands on what is beneath the operands on this stack, and an object that was made is at its address
abbrev pub IsPushed : Asks → Option Value → List Value → State → Type 0
IsPushed nothing answer stack t = Unit {0}
IsPushed (a_value type operands) answer stack t = (v : Value) × (answer ≡ Some v) × (t.stack ≡ v ∷ drop operands stack)
IsPushed an_element answer stack t = (v : Value) × (answer ≡ Some v) × (t.stack ≡ v ∷ drop 2 stack)
IsPushed (an_address made_there operands) answer stack t =
    (a : ℕ) × (answer ≡ Some (reference a)) × (t.stack ≡ reference a ∷ drop operands stack)
    × (t.heap a ≡ Some made_there)

-- objects that are ready stay as they are
abbrev pub StayReady : Heap → Heap → Type 0
StayReady before behind = (a : ℕ) (x : ReferenceType) → before a ≡ Some (object x ready)
    → behind a ≡ Some (object x ready)

-- the state after a step
pub record IsSuccessor (world : World) (m : Method Act) (s : State) (act : Act)
    (branch : Option ℕ) (answer : Option Value) (fresh : List (ℕ × ReferenceType)) (t : State) : Type 0 where
  pub may : MayGoOn world m act (with_new s fresh)
  pub answered : IsAnswer world (with_new s fresh) (asks m act) answer
  pub way : IsWay m s.at act t.at
  pub told : IsTold (jumps act) branch t.at
  pub pushed : IsPushed (asks m act) answer s.stack t
  pub stay_ready : StayReady (with_fresh s.heap fresh) t.heap
  pub locals : is_store act ≡ false → t.locals ≡ s.locals

-- an object that is raised is a Throwable, and ready
abbrev pub IsThrowable : World → Heap → ℕ → ReferenceType → Type 0
IsThrowable world heap address type = (heap address ≡ Some (object type ready))
    × IsBelow world type (class_type throwable_name)

-- the state after a catch: at the handler of an entry that covers the instruction and catches the object, which stands
-- alone on the stack
pub record IsCatch (world : World) (m : Method Act) (s : State)
    (address : ℕ) (fresh : List (ℕ × ReferenceType)) (entry : ℕ) (t : State) : Type 0 where
  pub type : ReferenceType
  pub throwable : IsThrowable world (with_fresh s.heap fresh) address type
  pub e : ExceptionEntry
  pub which : slice_get m.exceptions entry ≡ Some e
  pub covered : covers e s.at ≡ true
  pub caught : IsBelow world type e.caught
  pub at : t.at ≡ e.handler
  pub stack : t.stack ≡ reference address ∷ []
  pub locals : t.locals ≡ s.locals
  pub heap : t.heap ≡ with_fresh s.heap fresh

-- what comes of an instruction at a state, where these objects come into being
pub record HasBounds (world : World) (m : Method Act) (s : State) (act : Act)
    (fresh : List (ℕ × ReferenceType)) : Type 0 where
  pub steps : (branch : Option ℕ) (answer : Option Value) (t : State)
      → Happens world m s (go branch answer fresh) (goes_on t)
      → IsSuccessor world m s act branch answer fresh t
  pub returns : (branch : Option ℕ) (answer : Option Value) → Happens world m s (go branch answer fresh) ended
      → is_return act ≡ true
  pub catches : (address entry : ℕ) (t : State) → Happens world m s (raise address fresh (Some entry)) (goes_on t)
      → IsCatch world m s address fresh entry t
  pub raises : (address : ℕ) → Happens world m s (raise address fresh None) ended
      → (type : ReferenceType) × IsThrowable world (with_fresh s.heap fresh) address type

abbrev pub StepBounds : Type 0
StepBounds =
    (world : World) (m : Method Act) (s : State) → IsNoFault world m s → (act : Act) → at_offset m.code s.at ≡ Some act
    → (fresh : List (ℕ × ReferenceType)) → HasBounds world m s act fresh

-- ---- worlds

abbrev pub with_class : World → List ℕ → Entry → World
with_class world name e = λ n. if bytes_eq n name then Some e else world n

abbrev pub interface_entry : Entry
interface_entry = record { superclass = Some object_name; interface = true }

abbrev pub class_entry : Option (List ℕ) → Entry
class_entry superclass = record { superclass = superclass; interface = false }

-- With one more class a world still extends the hierarchy: a name that it lacks is an interface, or a class under any
-- superclass or none.
pub record HasMore (classes : List ClassFact) (world : World) : Type 0 where
  pub interfaces : (name : List ℕ) → world name ≡ None → Extends (with_class world name interface_entry) classes
  pub more_classes : (name : List ℕ) → world name ≡ None → name ≢ cloneable_name → name ≢ serializable_name
      → (superclass : Option (List ℕ)) → Extends (with_class world name (class_entry superclass)) classes

-- A hierarchy extends itself; so does it with one more interface, and with one more class under any superclass or none;
-- and so does each world that extends it, with one more class.
pub record HasWorlds (classes : List ClassFact) : Type 0 where
  pub itself : Extends (world_of classes) classes
  pub interfaces : (name : List ℕ) → IsAbsent classes name
      → Extends (with_class (world_of classes) name interface_entry) classes
  pub more_classes : (name : List ℕ) → IsAbsent classes name → name ≢ cloneable_name → name ≢ serializable_name
      → (superclass : Option (List ℕ)) → Extends (with_class (world_of classes) name (class_entry superclass)) classes
  pub more : (world : World) → Extends world classes → HasMore classes world

abbrev pub WorldBreadth : Type 0
WorldBreadth = (classes : List ClassFact) → IsHierarchy classes → HasWorlds classes
