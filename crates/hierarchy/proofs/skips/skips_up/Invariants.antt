use Rattle.std.proofs.Common.{map}
use Rattle.hierarchy.proofs.Doubling.{AreDoubled}
use Rattle.hierarchy.proofs.skips.skips_up.Given as goal

abbrev pub invariant-loop-left : goal.invariant-loop-left
invariant-loop-left g l = AreDoubled l.index l.left (map (λ t. t.items) l.tables.items) l.tops.items

abbrev pub decreases-loop-left : goal.decreases-loop-left
decreases-loop-left g l = l.left
