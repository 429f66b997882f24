use Rattle.std.proofs.Common.{sym, ◌∙◌}
use Rattle.machine.specs.Views.{stack_of}
use Rattle.machine.proofs.Stacks.{form_next, form_here, form_end}
use Rattle.machine.proofs.operands.form_for.Goals as goal

pub loop-form-preserved : goal.loop-form-preserved
loop-form-preserved c = c.loop-form.invariant ∙ form_next c.args.forms.now c.loop-form.form-index _ (stack_of c.args.stack.now) c.loop-form-test.true (sym c.are_form.ensures ∙ c.if-are_form.false)

pub returns-then-are_form : goal.returns-then-are_form
returns-then-are_form c = sym (c.loop-form.invariant ∙ form_here c.args.forms.now c.loop-form.form-index _ (stack_of c.args.stack.now) c.loop-form-test.true (sym c.are_form.ensures ∙ c.if-are_form.true))

pub returns : goal.returns
returns c = sym (c.loop-form.invariant ∙ form_end c.args.forms.now c.loop-form.form-index (stack_of c.args.stack.now) c.loop-form-test.false)
