use Rattle.std.proofs.Common.{◌++◌, sym, ◌∙◌, ap}
use Rattle.insn.specs.OperandStacks.{chosen}
use Rattle.machine.specs.Views.{stack_of}
use Rattle.machine.proofs.Moves.{beneath_drop}
use Rattle.machine.proofs.stacking.rearranged.Goals as goal

pub returns : goal.returns
returns c = c.in_ok-push_chosen.ensures ∙ ap (λ z. chosen (stack_of c.args.stack.now) c.args.form.leaves.now ++ z) (ap stack_of c.in_ok-after.ensures ∙ c.beneath_so_many.ensures ∙ sym (beneath_drop c.args.form.takes.now (stack_of c.args.stack.now)))
