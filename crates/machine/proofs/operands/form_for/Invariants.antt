use Rattle.std.proofs.Common.{◌≡◌, drop, map}
use Rattle.insn.specs.Views.{stack_form_view}
use Rattle.machine.specs.private.Decided.{form_for}
use Rattle.machine.specs.Views.{stack_of}
use Rattle.machine.proofs.operands.form_for.Given as goal

abbrev pub invariant-loop-form : goal.invariant-loop-form
invariant-loop-form l = form_for (map stack_form_view l.forms) (stack_of l.stack) ≡ form_for (map stack_form_view (drop l.form-index l.forms)) (stack_of l.stack)
