-- The steps of the machine (JVMS 2.10, 2.11, 6.5): what an instruction does, by a choice, at a state that is not a
-- fault.
use Rattle.std.specs.Prelude.{◌≡◌, ℕ, ℤ, pos, true, List, [], ◌∷◌, ◌++◌, slice_get, Option, Some, None, ◌⊎◌}
use Rattle.names.specs.Descriptors.{FieldDescriptor}
use Rattle.names.specs.ReferenceTypes.{ReferenceType, class_type, array_type}
use Rattle.names.specs.StandardNames.{throwable_name}
use Rattle.hierarchy.specs.World.{World}
use Rattle.classfile.specs.Methods.{Method, ExceptionEntry, covers}
use Rattle.insn.specs.Operators.{StackForm}
use Rattle.insn.specs.OperandStacks.{beneath, rearranged}
use Rattle.insn.specs.Offsets.{at_offset, next_offset, IsAmong}
use Rattle.insn.specs.Meanings.{Act}
use Rattle.machine.specs.Values.{Value, number, null, reference, holds, stored}
use Rattle.machine.specs.Heap.{Status, ready, made, object, Heap, with_object, IsAddress, IsBelow, FitsReference, FitsField, IsFresh, with_fresh}
use Rattle.machine.specs.Effects as tables
use Rattle.machine.specs.Effects.{Demand, Reply, no_reply, gives_number, gives_null, gives_answer, Effect, operates, reads, writes, increments, moves, takes_element, passes, creates, makes_array, initializes, calls_special, leaves, ends, Effects, falls, targets}
use Rattle.machine.specs.Demands.{State, AreForm, IsNoFaultBy}

-- A choice settles whatever an instruction leaves open. Objects that come into being meanwhile are made first, each at
-- an address.
pub data Choice : Type 0 where
  -- the offset gone to, given exactly where there are targets, and the value that is answered, if one is
  go : (branch : Option ℕ) (answer : Option Value) (fresh : List (ℕ × ReferenceType)) → Choice
  -- the object that is raised, and the entry of the exception table by which it is caught, if it is
  raise : (address : ℕ) (fresh : List (ℕ × ReferenceType)) (entry : Option ℕ) → Choice

pub data Outcome : Type 0 where
  goes_on : (state : State) → Outcome
  ended : Outcome

-- ---- what an instruction does

-- the values that it pushes, and the answer that is chosen
abbrev pub Replies : World → Heap → Reply → Option Value → List Value → Type 0
Replies world heap no_reply answer vs = (answer ≡ None) × (vs ≡ [])
Replies world heap (gives_number kind) answer vs = (answer ≡ None) × (vs ≡ number kind ∷ [])
Replies world heap gives_null answer vs = (answer ≡ None) × (vs ≡ null ∷ [])
Replies world heap (gives_answer type) answer vs = (v : Value) × (answer ≡ Some v) × FitsField world heap type v
    × (vs ≡ v ∷ [])

abbrev pub IsNull : Option Value → Type 0
IsNull (Some null) = Unit {0}
IsNull _ = ⊥

-- where a receiver, a field's object, an array or a monitor is null, it only raises
abbrev pub IsLive : Option ℕ → List Value → Type 0
IsLive None vs = Unit {0}
IsLive (Some i) vs = IsNull (slice_get vs i) → ⊥

-- the state at another offset, with another stack
abbrev pub moved : State → ℕ → List Value → State
moved s at stack = record { at = at; stack = stack; locals = s.locals; heap = s.heap }

-- and with other objects
abbrev pub moved_with : State → ℕ → List Value → Heap → State
moved_with s at stack heap = record { at = at; stack = stack; locals = s.locals; heap = heap }

-- operands are taken and a reply is given
abbrev pub Operates : World → List Demand → Option ℕ → Reply → State → Option Value → ℕ → State → Type 0
Operates world demands live reply s answer at t =
    IsLive live s.stack × ((vs : List Value) × Replies world s.heap reply answer vs
    × (t ≡ moved s at (vs ++ beneath demands s.stack)))

-- Its effect, from one state on its way to an offset to another state, by the answer that is chosen.
abbrev pub Does : World → Effect → State → Option Value → ℕ → State → Type 0
Does world (operates demands live reply offsets on) s answer at t = Operates world demands live reply s answer at t
Does world (calls_special class demands live reply) s answer at t = Operates world demands live reply s answer at t
Does world (reads demand local) s answer at t =
    (v : Value) × (slice_get s.locals local ≡ Some (holds v)) × (answer ≡ None) × (t ≡ moved s at (v ∷ s.stack))
Does world (writes demand local width) s answer at t =
    (v : Value) × (rest : List Value) × (s.stack ≡ v ∷ rest) × (answer ≡ None)
    × (t ≡ record { at = at; stack = rest; locals = stored v local s.locals; heap = s.heap })
Does world (increments local) s answer at t = (answer ≡ None) × (t ≡ moved s at s.stack)
Does world (moves forms) s answer at t =
    (f : StackForm) × IsAmong f forms × AreForm f.takes s.stack × (answer ≡ None)
    × (t ≡ moved s at (rearranged f s.stack))
Does world takes_element s answer at t =
    (i : Value) × (a : ℕ) × (component : FieldDescriptor) × (rest : List Value) × (v : Value)
    × (s.stack ≡ i ∷ reference a ∷ rest) × (s.heap a ≡ Some (object (array_type component) ready))
    × FitsField world s.heap component v
    × (answer ≡ Some v) × (t ≡ moved s at (v ∷ rest))
Does world (passes type) s answer at t =
    (v : Value) × (rest : List Value) × (s.stack ≡ v ∷ rest) × FitsReference world s.heap type v × (answer ≡ None)
    × (t ≡ moved s at (v ∷ rest))
Does world (creates class) s answer at t =
    (a : ℕ) × (answer ≡ Some (reference a)) × (s.heap a ≡ None) × IsAddress a
    × (t ≡ moved_with s at (reference a ∷ s.stack) (with_object s.heap a (object (class_type class) made)))
Does world (makes_array demands type) s answer at t =
    (a : ℕ) × (answer ≡ Some (reference a)) × (s.heap a ≡ None) × IsAddress a
    × (t ≡ moved_with s at (reference a ∷ beneath demands s.stack) (with_object s.heap a (object type ready)))
Does world (initializes class demands) s answer at t =
    (a : ℕ) × (rest : List Value) × (x : ReferenceType) × (status : Status)
    × (beneath demands s.stack ≡ reference a ∷ rest) × (s.heap a ≡ Some (object x status)) × (answer ≡ None)
    × (t ≡ moved_with s at rest (with_object s.heap a (object x ready)))
Does world _ s answer at t = ⊥

-- ---- steps

-- the branch is given exactly for an instruction with targets
abbrev pub IsBranch : List ℤ → Option ℕ → ℕ → Type 0
IsBranch [] branch at = branch ≡ None
IsBranch (target ∷ others) branch at = branch ≡ Some at

-- it goes to a target, or on
abbrev pub GoesTo : Method Act → ℕ → Effect → ℕ → Type 0
GoesTo m from t at = IsAmong (pos at) (targets from t) ⊎ ((falls t ≡ true) × (next_offset m.code from ≡ Some at))

pub record StepsBy (effect : Effects) (world : World) (m : Method Act) (s : State)
    (branch : Option ℕ) (answer : Option Value) (fresh : List (ℕ × ReferenceType)) (t : State) : Type 0 where
  pub act : Act
  pub here : at_offset m.code s.at ≡ Some act
  pub unused : IsFresh s.heap fresh
  pub to : ℕ
  pub branches : IsBranch (targets s.at (effect m act)) branch to
  pub goes : GoesTo m s.at (effect m act) to
  pub does : Does world (effect m act)
      (record { at = s.at; stack = s.stack; locals = s.locals; heap = with_fresh s.heap fresh }) answer to t

-- a return
abbrev pub IsLast : Effect → Type 0
IsLast (leaves demands) = Unit {0}
IsLast ends = Unit {0}
IsLast _ = ⊥

pub record EndsBy (effect : Effects) (m : Method Act) (s : State) (branch : Option ℕ) (answer : Option Value)
    (fresh : List (ℕ × ReferenceType)) : Type 0 where
  pub act : Act
  pub here : at_offset m.code s.at ≡ Some act
  pub unused : IsFresh s.heap fresh
  pub no_branch : branch ≡ None
  pub no_answer : answer ≡ None
  pub last : IsLast (effect m act)

-- ---- exceptions

-- an object that may be raised: a Throwable that is ready
pub record IsRaised (world : World) (s : State) (address : ℕ) (fresh : List (ℕ × ReferenceType)) : Type 0 where
  pub unused : IsFresh s.heap fresh
  pub type : ReferenceType
  pub here : with_fresh s.heap fresh address ≡ Some (object type ready)
  pub throwable : IsBelow world type (class_type throwable_name)

-- it is caught by an entry that covers the instruction, and stands alone on the stack
pub record IsCaught (world : World) (m : Method Act) (s : State)
    (address : ℕ) (fresh : List (ℕ × ReferenceType)) (entry : ℕ) (t : State) : Type 0 where
  pub raised : IsRaised world s address fresh
  pub by_entry : ExceptionEntry
  pub which : slice_get m.exceptions entry ≡ Some by_entry
  pub covered : covers by_entry s.at ≡ true
  pub catches : IsBelow world raised.type by_entry.caught
  pub result : t ≡ moved_with s by_entry.handler (reference address ∷ []) (with_fresh s.heap fresh)

-- what comes of a choice, at a state that is not a fault
abbrev pub HappensBy : Effects → World → Method Act → State → Choice → Outcome → Type 0
HappensBy effect world m s (go branch answer fresh) (goes_on t) = IsNoFaultBy effect world m s
    × StepsBy effect world m s branch answer fresh t
HappensBy effect world m s (go branch answer fresh) ended = IsNoFaultBy effect world m s
    × EndsBy effect m s branch answer fresh
HappensBy effect world m s (raise address fresh (Some entry)) (goes_on t) = IsNoFaultBy effect world m s
    × IsCaught world m s address fresh entry t
HappensBy effect world m s (raise address fresh None) ended = IsNoFaultBy effect world m s
    × IsRaised world s address fresh
HappensBy effect world m s _ _ = ⊥

-- by the effects of all instructions
abbrev pub Steps : World → Method Act → State → Option ℕ → Option Value → List (ℕ × ReferenceType) → State → Type 0
Steps = StepsBy tables.effect

abbrev pub Happens : World → Method Act → State → Choice → Outcome → Type 0
Happens = HappensBy tables.effect
