-- The answer of `step`.
use Rattle.std.specs.Prelude.{Result, Ok, Err}
use Rattle.hierarchy.specs.World.{World}
use Rattle.classfile.specs.Methods.{Method}
use Rattle.insn.specs.Meanings.{Act}
use Rattle.machine.specs.declared.choosing.Outcome.{Outcome as RawOutcome}
use Rattle.machine.specs.declared.choosing.Outcome.TheVariants as outcomes
use Rattle.machine.specs.declared.choosing.StepFault.{StepFault}
use Rattle.machine.specs.declared.choosing.StepFault.TheVariants.{OutOfMemory, NotAChoice, NotInitial}
use Rattle.machine.specs.Effects.{Effects}
use Rattle.machine.specs.Demands.{State, IsNoFaultBy}
use Rattle.machine.specs.Steps.{Choice, Outcome, goes_on, ended, HappensBy}
use Rattle.machine.specs.Views.{state_view}

-- A fault exactly at a fault; elsewhere what comes of the choice, and 54 exactly where nothing does
abbrev pub Stepped : Effects → World → Method Act → State → Choice → Result RawOutcome StepFault → Type 0
Stepped effect world m s choice (Ok (outcomes.Next t)) = HappensBy effect world m s choice (goes_on (state_view t))
Stepped effect world m s choice (Ok outcomes.Ended) = HappensBy effect world m s choice ended
Stepped effect world m s choice (Ok outcomes.Fault) = IsNoFaultBy effect world m s → ⊥
Stepped effect world m s choice (Err OutOfMemory) = Unit {0}
Stepped effect world m s choice (Err NotAChoice) = IsNoFaultBy effect world m s
    × ((o : Outcome) → HappensBy effect world m s choice o → ⊥)
-- a step begins nothing
Stepped effect world m s choice (Err NotInitial) = ⊥
