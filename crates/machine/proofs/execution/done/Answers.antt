use Rattle.std.proofs.Common.{subst, inl, inr}
use Rattle.std.specs.Prelude.{option_map}
use Rattle.insn.specs.OperandStacks.{beneath}
use Rattle.machine.specs.Heap.{object, ready}
use Rattle.machine.specs.Steps.{moved}
use Rattle.machine.specs.private.EffectViews.{demands_view}
use Rattle.machine.specs.private.Happening.{Done, Initializes, Puts}
use Rattle.machine.specs.Views.{value_view, run_type_view, state_view}
use Rattle.machine.proofs.execution.done.Goals as goal

pub returns-in-Reads : goal.returns-in-Reads
returns-in-Reads g c = rw c.in-Reads.is c.read.ensures

pub returns-in-Writes : goal.returns-in-Writes
returns-in-Writes g c = rw c.in-Writes.is c.write.ensures

pub returns-in-Moves : goal.returns-in-Moves
returns-in-Moves g c = rw c.in-Moves.is c.rearrange.ensures

pub returns-in-Creates : goal.returns-in-Creates
returns-in-Creates g c = rw c.in-Creates.is c.create.ensures

pub returns-in-MakesArray : goal.returns-in-MakesArray
returns-in-MakesArray g c =
    let s = state_view c.args.state in
    rw c.in-MakesArray.is (subst (λ z. Done (Puts (object (run_type_view c.in-MakesArray.made) ready) (moved s s.at (beneath (demands_view z) s.stack)) (option_map value_view c.args.answer)) c.make_array.result)
    c.deref.ensures.value c.make_array.ensures)

pub returns-in-Initializes : goal.returns-in-Initializes
returns-in-Initializes g c =
    rw c.in-Initializes.is (subst (λ z. Done (Initializes (demands_view z) (state_view c.args.state) (option_map value_view c.args.answer)) c.initialize.result)
    c.deref-in-Initializes.ensures.value c.initialize.ensures)

pub returns-in-Operates : goal.returns-in-Operates
returns-in-Operates g c = elim c.in-Operates.is [ inl e ↦ rw e.2 c.operate.ensures | inr e ↦ rw e.1 c.operate.ensures ]
