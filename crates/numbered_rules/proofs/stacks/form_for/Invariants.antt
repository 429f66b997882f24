use Rattle.std.proofs.Common.{◌≡◌, drop, map}
use Rattle.insn.specs.Views.{stack_form_view}
use Rattle.rules.specs.After.{form_for}
use Rattle.numbered_rules.specs.RunningFrame.{held}
use Rattle.numbered_rules.proofs.stacks.form_for.Given as goal

abbrev pub invariant-loop-form : goal.invariant-loop-form
invariant-loop-form g l = form_for (map stack_form_view l.forms) (held l.frames).stack ≡ form_for (map stack_form_view (drop l.form-index l.forms)) (held l.frames).stack
