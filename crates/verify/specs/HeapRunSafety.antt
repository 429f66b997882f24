-- Safety of classes in play, whatever they store and read: no activation meets a fault in any run with a history. The
-- theorem: classes whose methods are type-safe are safe so.
use Rattle.std.specs.Prelude.{List}
use Rattle.classfile.specs.Methods.{JudgedClass}
use Rattle.hierarchy.specs.World.{World}
use Rattle.hierarchy.specs.Class.{ClassFact}
use Rattle.hierarchy.specs.Rules.{IsHierarchy}
use Rattle.hierarchy.specs.Extends.{Extends}
use Rattle.insn.specs.Offsets.{IsAmong}
use Rattle.machine.specs.Demands.{IsNoFault}
use Rattle.verify.specs.ClassRuns.{state_in, Activation}
use Rattle.verify.specs.ClassRunSafety.{IsInPlay, AreVerified, ArePlayable}
use Rattle.verify.specs.HeapRuns.{HeapMoment, IsHeapRun}

-- in every world that extends the hierarchy, no activation of a run through the methods of the classes is at a fault
abbrev pub ArePlayableWithHeap : List ClassFact → List JudgedClass → Type 0
ArePlayableWithHeap classes cs =
    (world : World) → Extends world classes → (run : List HeapMoment) → IsHeapRun world (IsInPlay cs) run
    → (q : HeapMoment) → IsAmong q run
    → (a : Activation) → IsAmong a q.now.activations → IsNoFault world a.method (state_in q.now.types a)

abbrev pub VerifiedIsPlayableWithHeap : Type 0
VerifiedIsPlayableWithHeap =
    (classes : List ClassFact) → IsHierarchy classes → (cs : List JudgedClass) → AreVerified classes cs
    → ArePlayableWithHeap classes cs

-- and so are classes that are playable as long as each value that they read fits
abbrev pub PlayableIsPlayableWithHeap : Type 0
PlayableIsPlayableWithHeap = (classes : List ClassFact) (cs : List JudgedClass) → ArePlayable classes cs
    → ArePlayableWithHeap classes cs
