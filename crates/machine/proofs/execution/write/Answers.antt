use Rattle.std.proofs.Common.{◌∙◌, ap, arith, List}
use Rattle.std.proofs.lemmas.List.{with_items_is}
use Rattle.machine.specs.Values.{Slot, stored}
use Rattle.machine.specs.Views.{value_view, stack_of, locals_of, heap_view}
use Rattle.machine.proofs.Moves.{stack_last}
use Rattle.machine.proofs.Raised.{state}
use Rattle.machine.proofs.EffectLaws.{no_answer}
use Rattle.machine.proofs.execution.write.Goals as goal

pub returns : goal.returns
returns c = (
  value_view c.in-Some.value,
  stack_of c.pop.new.self.items,
  ap stack_of c.in-Some.ensures.items ∙ stack_last c.pop.new.self.items c.in-Some.value,
  no_answer c.args.answer c.is_some.result c.is_some.ensures c.if-is_some.false,
  ap (λ (z : List Slot). state c.args.state.at (stack_of c.pop.new.self.items) z (heap_view c.args.state.heap))
      (ap locals_of (with_items_is c.args.state.locals c.store.new.slots (omega (arith, c.store.auto.slots, c.deref_mut.ensures.len)))
      ∙ c.store.ensures ∙ ap (λ z. stored (value_view c.in-Some.value) c.args.local (locals_of z)) c.deref_mut.ensures.value),
)
