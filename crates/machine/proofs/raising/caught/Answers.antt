use Rattle.std.proofs.Common.{refl, sym, ◌∙◌, ap}
use Rattle.classfile.specs.Methods.{covers}
use Rattle.machine.specs.Bodies.{entry_view}
use Rattle.machine.specs.Views.{heap_view}
use Rattle.machine.proofs.Raised.{entry_at, state_is}
use Rattle.machine.proofs.raising.caught.Goals as goal

pub returns : goal.returns
returns g c = record {
  by_entry = entry_view c.in-Some.found.now;
  which = entry_at c.args.method.now.exceptions.items c.deref.result.now c.args.entry c.from.result c.in-Some.found.now c.deref.ensures.value c.from.ensures c.in-Some.ensures.lookup.3.0 c.in-Some.ensures.lookup.1;
  covered = ap (covers (entry_view c.in-Some.found.now)) (sym c.offset.ensures) ∙ (sym c.covers.ensures ∙ c.if-not-covers.false);
  catches = c.is_below.ensures.0 c.if-not-is_below.false;
  result = state_is c.in-Some.found.now.handler _ _ _ _ (heap_view c.args.state.heap) c.in_ok-after.ensures refl;
}
