-- Words of the code's own steps: nothing that a reader must believe rests on them.
-- The answers of the calls that go on and that raise, by what is done and where the next instruction begins.
use Rattle.std.specs.Prelude.{◌≡◌, ◌⊎◌, ℕ, zero, suc, ℤ, pos, Bool, true, List, [], ◌∷◌, slice_get, Option, Some, None, option_to_list, Result, Ok, Err, if◌then◌else◌}
use Rattle.names.specs.ReferenceTypes.{ReferenceType}
use Rattle.hierarchy.specs.World.{World}
use Rattle.classfile.specs.Methods.{Method, ExceptionEntry, covers}
use Rattle.insn.specs.Meanings.{Act}
use Rattle.insn.specs.Operators.{StackForm}
use Rattle.insn.specs.OperandStacks.{beneath, rearranged}
use Rattle.insn.specs.Offsets.{IsAmong}
use Rattle.machine.specs.declared.choosing.Outcome.{Outcome as RawOutcome}
use Rattle.machine.specs.declared.choosing.Outcome.TheVariants as outcomes
use Rattle.machine.specs.declared.snapshot.State.{State as RawState}
use Rattle.machine.specs.declared.choosing.StepFault.{StepFault}
use Rattle.machine.specs.declared.choosing.StepFault.TheVariants.{OutOfMemory, NotAChoice, NotInitial}
use Rattle.machine.specs.Values.{Value, reference, Slot, empty, holds, is_wide_slot, behind_lost, stored}
use Rattle.machine.specs.Heap.{Status, ready, Object, object, Heap, with_object, IsAddress, IsBelow, IsFresh, with_fresh}
use Rattle.machine.specs.Effects.{Demand, Reply, Effect, falls, targets}
use Rattle.machine.specs.Demands.{State, AreForm}
use Rattle.machine.specs.Steps.{Replies, Operates, moved, IsBranch, IsLast, Does, IsRaised, IsCaught, moved_with}
use Rattle.machine.specs.Views.{state_view}

-- ---- stores

-- the local variable before this place, if it holds a long or double, is empty
abbrev pub with_before : ℕ → List Slot → List Slot
with_before n [] = []
with_before zero (s ∷ ss) = s ∷ ss
with_before (suc zero) (s ∷ ss) = (if is_wide_slot s then empty else s) ∷ ss
with_before (suc (suc n)) (s ∷ ss) = s ∷ with_before (suc n) ss

-- where this one holds a long or double, the one after it is empty
abbrev pub with_behind : ℕ → List Slot → List Slot
with_behind n [] = []
with_behind zero (s ∷ ss) = s ∷ behind_lost (is_wide_slot s) ss
with_behind (suc n) (s ∷ ss) = s ∷ with_behind n ss

-- ---- what is done

-- A call that changes a state: it answers one of which this holds, or 54 where it holds of none, or 1.
abbrev pub Done : (State → Type 0) → Result RawState StepFault → Type 0
Done P (Ok t) = P (state_view t)
Done P (Err OutOfMemory) = Unit {0}
Done P (Err NotAChoice) = (t : State) → P t → ⊥
Done P (Err NotInitial) = ⊥

-- what it does to a state that is already where it goes
abbrev pub DoesHere : World → Effect → State → Option Value → State → Type 0
DoesHere world effect s answer t = Does world effect s answer s.at t

abbrev pub OperatesHere : World → List Demand → Option ℕ → Reply → State → Option Value → State → Type 0
OperatesHere world demands live reply s answer t = Operates world demands live reply s answer s.at t

-- a local variable holds the value, or none
abbrev pub IsHeld : Option Slot → Option Value → Type 0
IsHeld slot None = (v : Value) → slot ≡ Some (holds v) → ⊥
IsHeld slot (Some v) = slot ≡ Some (holds v)

-- what is pushed by the reply: a value, or nothing; none, where the answer may not be given
abbrev pub IsGiven : World → Heap → Reply → Option Value → Option (Option Value) → Type 0
IsGiven world heap reply answer None = (vs : List Value) → Replies world heap reply answer vs → ⊥
IsGiven world heap reply answer (Some given) = Replies world heap reply answer (option_to_list given)

-- what is done to local variables and to the stack
abbrev pub ReadsLocal : ℕ → State → Option Value → State → Type 0
ReadsLocal local s answer t = (v : Value) × (slice_get s.locals local ≡ Some (holds v)) × (answer ≡ None)
    × (t ≡ moved s s.at (v ∷ s.stack))

abbrev pub WritesLocal : ℕ → State → Option Value → State → Type 0
WritesLocal local s answer t =
    (v : Value) × (rest : List Value) × (s.stack ≡ v ∷ rest) × (answer ≡ None)
    × (t ≡ record { at = s.at; stack = rest; locals = stored v local s.locals; heap = s.heap })

abbrev pub Rearranges : List StackForm → State → Option Value → State → Type 0
Rearranges forms s answer t =
    (f : StackForm) × IsAmong f forms × AreForm f.takes s.stack × (answer ≡ None)
    × (t ≡ moved s s.at (rearranged f s.stack))

-- the object at an address is ready
abbrev pub MakesReady : ℕ → State → State → Type 0
MakesReady a s t =
    (x : ReferenceType) × (status : Status) × (s.heap a ≡ Some (object x status))
    × (t ≡ moved_with s s.at s.stack (with_object s.heap a (object x ready)))

-- so is the one that stands beneath the arguments, and all of them are taken
abbrev pub Initializes : List Demand → State → Option Value → State → Type 0
Initializes demands s answer t =
    (a : ℕ) × (rest : List Value) × (x : ReferenceType) × (status : Status)
    × (beneath demands s.stack ≡ reference a ∷ rest) × (s.heap a ≡ Some (object x status)) × (answer ≡ None)
    × (t ≡ moved_with s s.at rest (with_object s.heap a (object x ready)))

-- the object comes to be at an address that is unused
abbrev pub PutsAt : Object → State → ℕ → State → Type 0
PutsAt o s a t = (s.heap a ≡ None) × IsAddress a
    × (t ≡ moved_with s s.at (reference a ∷ s.stack) (with_object s.heap a o))

abbrev pub Puts : Object → State → Option Value → State → Type 0
Puts o s answer t =
    (a : ℕ) × (answer ≡ Some (reference a)) × (s.heap a ≡ None) × IsAddress a
    × (t ≡ moved_with s s.at (reference a ∷ s.stack) (with_object s.heap a o))

-- ---- going on

-- the state elsewhere, among these objects
abbrev pub moved_to : State → ℕ → Heap → State
moved_to s at heap = moved_with s at s.stack heap

-- an instruction with these targets goes to an offset by its branch, where that is the next start
pub record MayGo (targets : List ℤ) (falls : Bool) (next branch : Option ℕ) (to : ℕ) : Type 0 where
  pub by : IsBranch targets branch to
  pub where_to : IsAmong (pos to) targets ⊎ ((falls ≡ true) × (next ≡ Some to))

abbrev pub GoesWay : Effect → Option ℕ → ℕ → Option ℕ → ℕ → Type 0
GoesWay effect next from branch to = MayGo (targets from effect) (falls effect) next branch to

-- it goes to an offset, and does there what it does
pub record GoesOn (world : World) (effect : Effect) (next : Option ℕ) (s : State) (heap : Heap) (branch : Option ℕ)
    (answer : Option Value) (t : State) : Type 0 where
  pub to : ℕ
  pub way : GoesWay effect next s.at branch to
  pub does : Does world effect (moved_to s s.at heap) answer to t

-- it ends, by no branch
pub record EndsSo (effect : Effect) (branch : Option ℕ) (answer : Option Value) : Type 0 where
  pub last : IsLast effect
  pub no_branch : branch ≡ None
  pub no_answer : answer ≡ None

abbrev pub Goes : World → Effect → Option ℕ → State → Option ℕ → Option Value → List (ℕ × ReferenceType)
    → Result RawOutcome StepFault → Type 0
Goes world effect next s branch answer fresh (Ok (outcomes.Next t)) = IsFresh s.heap fresh
    × GoesOn world effect next s (with_fresh s.heap fresh) branch answer (state_view t)
Goes world effect next s branch answer fresh (Ok outcomes.Ended) = IsFresh s.heap fresh × EndsSo effect branch answer
Goes world effect next s branch answer fresh (Ok outcomes.Fault) = ⊥
Goes world effect next s branch answer fresh (Err OutOfMemory) = Unit {0}
Goes world effect next s branch answer fresh (Err NotAChoice) =
    IsFresh s.heap fresh → ((t : State) → GoesOn world effect next s (with_fresh s.heap fresh) branch answer t → ⊥)
    × (EndsSo effect branch answer → ⊥)
Goes world effect next s branch answer fresh (Err NotInitial) = ⊥

-- ---- raising

-- an object of a type is caught by the entry of a place, and stands alone on the stack
pub record Catches (world : World) (m : Method Act) (s : State)
    (address : ℕ) (type : ReferenceType) (heap : Heap) (entry : ℕ) (t : State) : Type 0 where
  pub by_entry : ExceptionEntry
  pub which : slice_get m.exceptions entry ≡ Some by_entry
  pub covered : covers by_entry s.at ≡ true
  pub catches : IsBelow world type by_entry.caught
  pub result : t ≡ moved_with s by_entry.handler (reference address ∷ []) heap

abbrev pub CatchesBy : World → Method Act → State → ℕ → ReferenceType → Heap → ℕ → Result RawOutcome StepFault → Type 0
CatchesBy world m s address type heap entry (Ok (outcomes.Next t)) =
    Catches world m s address type heap entry (state_view t)
CatchesBy world m s address type heap entry (Ok outcomes.Ended) = ⊥
CatchesBy world m s address type heap entry (Ok outcomes.Fault) = ⊥
CatchesBy world m s address type heap entry (Err OutOfMemory) = Unit {0}
CatchesBy world m s address type heap entry (Err NotAChoice) = (t : State) → Catches world m s address type heap entry t
    → ⊥
CatchesBy world m s address type heap entry (Err NotInitial) = ⊥

-- no entry is named by which it is caught
abbrev pub CaughtBy : World → Method Act → State → ℕ → List (ℕ × ReferenceType) → Option ℕ → State → Type 0
CaughtBy world m s address fresh None t = ⊥
CaughtBy world m s address fresh (Some entry) t = IsCaught world m s address fresh entry t

abbrev pub Raises : World → Method Act → State → ℕ → List (ℕ × ReferenceType) → Option ℕ → Result RawOutcome StepFault
    → Type 0
Raises world m s address fresh entry (Ok (outcomes.Next t)) = CaughtBy world m s address fresh entry (state_view t)
Raises world m s address fresh entry (Ok outcomes.Ended) = (entry ≡ None) × IsRaised world s address fresh
Raises world m s address fresh entry (Ok outcomes.Fault) = ⊥
Raises world m s address fresh entry (Err OutOfMemory) = Unit {0}
Raises world m s address fresh entry (Err NotAChoice) =
    (entry ≡ None → IsRaised world s address fresh → ⊥) × ((t : State) → CaughtBy world m s address fresh entry t → ⊥)
Raises world m s address fresh entry (Err NotInitial) = ⊥
