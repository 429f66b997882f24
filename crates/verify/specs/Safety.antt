-- Safety of a method: no run of it meets a fault, in no world that extends the known classes.
-- The theorem is that type-safe methods are safe.
use Rattle.std.specs.Prelude.{◌≡◌, List, Some}
use Rattle.classfile.specs.Methods.{Method}
use Rattle.hierarchy.specs.World.{World}
use Rattle.hierarchy.specs.Class.{ClassFact}
use Rattle.hierarchy.specs.Rules.{IsHierarchy}
use Rattle.hierarchy.specs.Extends.{Extends}
use Rattle.insn.specs.Meanings.{Act}
use Rattle.insn.specs.Offsets.{at_offset, IsAmong}
use Rattle.machine.specs.Demands.{State, HasOperands, IsWithinStack, StaysOnStarts, UsesReady, LeavesReady, IsNoFault}
use Rattle.machine.specs.Runs.{IsRun}
use Rattle.verify.specs.TypeSafety.{IsTypeSafe}

-- it holds in every world that extends the classes, at every state of every run of the method
abbrev pub HoldsThroughout : List ClassFact → Method Act → (World → State → Type 0) → Type 0
HoldsThroughout classes m Holds =
    (world : World) → Extends world classes → (run : List State) → IsRun world m run → (s : State) → IsAmong s run
    → Holds world s

abbrev pub IsSafe : List ClassFact → Method Act → Type 0
IsSafe classes m = HoldsThroughout classes m (λ world s. IsNoFault world m s)

-- it holds of every method that is type-safe
abbrev pub IfTypeSafe : (List ClassFact → Method Act → Type 0) → Type 0
IfTypeSafe Holds = (classes : List ClassFact) → IsHierarchy classes → (m : Method Act) → IsTypeSafe classes m
    → Holds classes m

abbrev pub TypeSafeIsSafe : Type 0
TypeSafeIsSafe = IfTypeSafe IsSafe

-- ---- its five parts, of the instruction at each state

abbrev pub AtInstruction : Method Act → State → (Act → Type 0) → Type 0
AtInstruction m s Holds = (act : Act) × (at_offset m.code s.at ≡ Some act) × Holds act

-- no instruction meets a missing or wrongly typed operand or local variable
abbrev pub HasRightOperands : List ClassFact → Method Act → Type 0
HasRightOperands classes m = HoldsThroughout classes m (λ world s. AtInstruction m s (HasOperands world m s))

abbrev pub OperandsAreRight : Type 0
OperandsAreRight = IfTypeSafe HasRightOperands

-- the stack never passes max_stack
abbrev pub StaysWithinStack : List ClassFact → Method Act → Type 0
StaysWithinStack classes m = HoldsThroughout classes m (λ world s. AtInstruction m s (IsWithinStack m s))

abbrev pub StackStaysWithin : Type 0
StackStaysWithin = IfTypeSafe StaysWithinStack

-- control never leaves the starts of instructions
abbrev pub KeepsToStarts : List ClassFact → Method Act → Type 0
KeepsToStarts classes m = HoldsThroughout classes m (λ world s. AtInstruction m s (StaysOnStarts m s))

abbrev pub ControlStaysOnStarts : Type 0
ControlStaysOnStarts = IfTypeSafe KeepsToStarts

-- no object is used before its constructor returned
abbrev pub UsesReadyObjects : List ClassFact → Method Act → Type 0
UsesReadyObjects classes m = HoldsThroughout classes m (λ world s. AtInstruction m s (UsesReady m s))

abbrev pub ObjectsAreReady : Type 0
ObjectsAreReady = IfTypeSafe UsesReadyObjects

-- no constructor returns before its own object is ready
abbrev pub ReturnsReady : List ClassFact → Method Act → Type 0
ReturnsReady classes m = HoldsThroughout classes m (λ world s. AtInstruction m s (LeavesReady m s))

abbrev pub OwnObjectIsReady : Type 0
OwnObjectIsReady = IfTypeSafe ReturnsReady

-- all of them, in one and by their parts
pub record IsSafeInAll (classes : List ClassFact) (m : Method Act) : Type 0 where
  pub safe : IsSafe classes m
  pub operands : HasRightOperands classes m
  pub stack : StaysWithinStack classes m
  pub control : KeepsToStarts classes m
  pub objects : UsesReadyObjects classes m
  pub own_object : ReturnsReady classes m
