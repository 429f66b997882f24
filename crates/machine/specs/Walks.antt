-- Walks: the steps of a method by a list of choices, as far as they lead (JVMS 2.6, 2.10, 2.11).
use Rattle.std.specs.Prelude.{ℕ, suc, List, [], ◌∷◌}
use Rattle.hierarchy.specs.World.{World}
use Rattle.classfile.specs.Methods.{Method}
use Rattle.insn.specs.Meanings.{Act}
use Rattle.machine.specs.Demands.{State, IsNoFault}
use Rattle.machine.specs.Steps.{Choice, Outcome, goes_on, ended, Happens}

-- where a walk stops
pub data Stop : Type 0 where
  -- all choices are used up, in this state
  more : (state : State) → Stop
  -- the method has ended
  returned : Stop
  -- the state is a fault
  fault : Stop
  -- nothing comes of the next choice, at a state that is not a fault
  no_choice : Stop

-- By these choices the method comes from a state to a stop; so many of the choices lead to a state or to the method's
-- end.
pub data Walks (world : World) (m : Method Act) : State → List Choice → ℕ → Stop → Type 0 where
  stops : {s : State} → Walks world m s [] 0 (more s)
  faulty : {s : State} {c : Choice} {cs : List Choice} → (IsNoFault world m s → ⊥) → Walks world m s (c ∷ cs) 0 fault
  refused : {s : State} {c : Choice} {cs : List Choice} → IsNoFault world m s
      → ((o : Outcome) → Happens world m s c o → ⊥)
      → Walks world m s (c ∷ cs) 0 no_choice
  ends : {s : State} {c : Choice} {cs : List Choice} → Happens world m s c ended → Walks world m s (c ∷ cs) 1 returned
  goes : {s t : State} {c : Choice} {cs : List Choice} {n : ℕ} {stop : Stop} → Happens world m s c (goes_on t)
      → Walks world m t cs n stop
      → Walks world m s (c ∷ cs) (suc n) stop
