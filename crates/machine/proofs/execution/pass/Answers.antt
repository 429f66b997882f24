use Rattle.std.proofs.Common.{◌∙◌, ap, slice_get}
use Rattle.machine.specs.Steps.{moved}
use Rattle.machine.specs.Views.{value_view, stack_of, state_view}
use Rattle.machine.proofs.EffectLaws.{no_answer, top_item}
use Rattle.machine.proofs.execution.pass.Goals as goal

pub returns-then-fits_reference : goal.returns-then-fits_reference
returns-then-fits_reference g c =
    let top = top_item (stack_of c.args.state.stack.items) (value_view c.in-Some.value) (c.in-Some.ensures ∙ ap (λ z. slice_get (stack_of z) 0) c.deref.ensures.value) in (
      value_view c.in-Some.value,
      top.0,
      top.1,
      c.fits_reference.ensures.0 c.if-fits_reference.true,
      no_answer c.args.answer c.is_some.result c.is_some.ensures c.if-is_some.false,
      ap (λ z. moved (state_view c.args.state) c.args.state.at z) top.1,
    )
