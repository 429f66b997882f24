-- Walks of methods that are verified, in the world that has the hierarchy's classes and no other (JVMS 2.6, 2.10, 2.11,
-- 4.10.1).
use Rattle.std.specs.Prelude.{◌≡◌, ◌≢◌, ℕ, List, [], ◌∷◌, Some, Result, Ok, Err}
use Rattle.classfile.specs.Methods.{JudgedClass, Method, method_of}
use Rattle.hierarchy.specs.World.{World}
use Rattle.hierarchy.specs.Class.{ClassFact, world_of}
use Rattle.insn.specs.Meanings.{Act}
use Rattle.insn.specs.Offsets.{IsAmong}
use Rattle.machine.specs.declared.walks.Walked.{Walked}
use Rattle.machine.specs.Demands.{State, IsNoFault}
use Rattle.machine.specs.Steps.{Choice, goes_on, Happens}
use Rattle.machine.specs.Runs.{IsInitial, IsRun}
use Rattle.machine.specs.Walks.{Stop, more, fault, Walks}
use Rattle.machine.specs.Views.{stop_view}
use Rattle.verify.specs.declared.verdict.VerifyFault.{VerifyFault}
use Rattle.verify.specs.declared.verdict.VerifyFault.TheVariants as faults
use Rattle.verify.specs.declared.verified_walk.WalkFault.{WalkFault}
use Rattle.verify.specs.declared.verified_walk.WalkFault.TheVariants.{OutOfMemory, NotInitial, NotVerified, NotInHierarchy}
use Rattle.verify.specs.ClassMethods.{IsMethod, IsTypeSafeIn}
use Rattle.verify.specs.Listed.{IsListed}

-- ---- the states of a walk

-- By these choices, or the first of them, the method comes from the first state to the other one.
pub data Reaches (world : World) (m : Method Act) : State → List Choice → State → Type 0 where
  here : {s : State} {cs : List Choice} → Reaches world m s cs s
  further : {s t u : State} {c : Choice} {cs : List Choice} → Happens world m s c (goes_on t) → Reaches world m t cs u
      → Reaches world m s (c ∷ cs) u

-- where the method begins in the first state, each state of the walk is one of a run
abbrev pub WalksAreRuns : Type 0
WalksAreRuns =
    (world : World) (m : Method Act) (s t : State) (choices : List Choice) → IsInitial world m s
    → Reaches world m s choices t
    → (run : List State) × IsRun world m run × IsAmong t run

-- ---- a method of a class

-- The method of this number has code and begins in this state. What its code says does not matter: no instructions
-- stand for all.
abbrev pub BeginsIn : List ClassFact → JudgedClass → ℕ → State → Type 0
BeginsIn classes c number s = (m : Method ℕ) × (method_of {A = ℕ} c number [] ≡ Some m)
    × IsInitial {A = ℕ} (world_of classes) m s

-- its walk by these choices takes so many of them and stops so
abbrev pub WalksIn : List ClassFact → JudgedClass → ℕ → State → List Choice → ℕ → Stop → Type 0
WalksIn classes c number s choices taken stop = (m : Method Act) × IsMethod c number m
    × Walks (world_of classes) m s choices taken stop

-- it does not stop at a fault, and no state that it reaches is one, the last one among them
pub record IsSafeWalk (classes : List ClassFact) (c : JudgedClass) (number : ℕ) (s : State) (choices : List Choice)
    (stop : Stop) : Type 0 where
  pub stopped : stop ≢ fault
  pub last : (m : Method Act) → IsMethod c number m → (t : State) → stop ≡ more t → IsNoFault (world_of classes) m t
  pub reached : (m : Method Act) → IsMethod c number m → (t : State) → Reaches (world_of classes) m s choices t
      → IsNoFault (world_of classes) m t

-- ---- what is returned

-- why the method is not verified: it is not type-safe (56), or the hierarchy has not its class as it is (80); or memory
-- ran out
abbrev pub IsUnverified : List ClassFact → JudgedClass → ℕ → WalkFault → Type 0
IsUnverified classes c number OutOfMemory = Unit {0}
IsUnverified classes c number NotInitial = ⊥
IsUnverified classes c number NotVerified = IsListed classes c.file × (IsTypeSafeIn classes c number → ⊥)
IsUnverified classes c number NotInHierarchy = IsListed classes c.file → ⊥

-- The walk of a method that begins in the state and is verified. 55 where it does not begin there, and that goes first;
-- otherwise why it is not verified.
abbrev pub WalksVerified : List ClassFact → JudgedClass → ℕ → State → List Choice → Result Walked WalkFault → Type 0
WalksVerified classes c number s choices (Ok w) =
    BeginsIn classes c number s × IsListed classes c.file × IsTypeSafeIn classes c number
    × WalksIn classes c number s choices w.taken (stop_view w.last)
WalksVerified classes c number s choices (Err OutOfMemory) = Unit {0}
WalksVerified classes c number s choices (Err NotInitial) = BeginsIn classes c number s → ⊥
WalksVerified classes c number s choices (Err NotVerified) = BeginsIn classes c number s
    × IsUnverified classes c number NotVerified
WalksVerified classes c number s choices (Err NotInHierarchy) = BeginsIn classes c number s
    × IsUnverified classes c number NotInHierarchy

abbrev pub of_verify_fault : VerifyFault → WalkFault
of_verify_fault faults.OutOfMemory = OutOfMemory
of_verify_fault faults.NotInHierarchy = NotInHierarchy

abbrev pub walk_fault_number : WalkFault → ℕ
walk_fault_number OutOfMemory = 1
walk_fault_number NotInitial = 55
walk_fault_number NotVerified = 56
walk_fault_number NotInHierarchy = 80
