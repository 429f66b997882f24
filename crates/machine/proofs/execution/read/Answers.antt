use Rattle.std.proofs.Common.{sym, ◌∙◌, ap, slice_get}
use Rattle.machine.specs.Steps.{moved}
use Rattle.machine.specs.Views.{value_view, stack_of, locals_of, state_view}
use Rattle.machine.proofs.Moves.{stack_last}
use Rattle.machine.proofs.EffectLaws.{no_answer}
use Rattle.machine.proofs.execution.read.Goals as goal

pub returns : goal.returns
returns c = (
  value_view c.in-Some.value,
  sym (ap (λ z. slice_get (locals_of z) c.args.local) c.deref.ensures.value) ∙ c.in-Some.ensures,
  no_answer c.args.answer c.is_some.result c.is_some.ensures c.if-is_some.false,
  ap (λ z. moved (state_view c.args.state) c.args.state.at z) (ap stack_of c.in_ok-push.ensures.items ∙ stack_last c.args.state.stack.items c.in-Some.value),
)
