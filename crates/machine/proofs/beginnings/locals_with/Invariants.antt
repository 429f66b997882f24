use Rattle.std.proofs.Common.{◌≡◌, map, take}
use Rattle.machine.specs.Values.{in_slots}
use Rattle.machine.specs.Views.{value_view, locals_of}
use Rattle.machine.proofs.beginnings.locals_with.Given as goal

abbrev pub invariant-loop-value : goal.invariant-loop-value
invariant-loop-value l = locals_of l.locals.items ≡ in_slots (map value_view (take l.value-index l.values))
