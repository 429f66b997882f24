use Rattle.std.proofs.Common.{◌≡◌}
use Rattle.hierarchy.specs.private.Versions.{value_at, IsVersion}
use Rattle.hierarchy.proofs.versions.Versions.get.Given as goal

abbrev pub invariant-loop-left : goal.invariant-loop-left
invariant-loop-left l = IsVersion l.self l.at × (value_at l.self l.at l.left ≡ value_at l.self l.fn.version l.fn.index)

abbrev pub decreases-loop-left : goal.decreases-loop-left
decreases-loop-left l = l.left
