use Rattle.std.proofs.Common.{◌≡◌, ◌+◌, drop, map}
use Rattle.machine.specs.Values.{depth_of}
use Rattle.machine.specs.Views.{value_view}
use Rattle.machine.proofs.operands.has_units.Given as goal

abbrev pub invariant-loop-value : goal.invariant-loop-value
invariant-loop-value l = depth_of (map value_view l.stack) + l.left ≡ l.count + depth_of (map value_view (drop l.value-index l.stack))
