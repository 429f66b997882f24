use Rattle.std.proofs.Common.{ℕ, ◌-◌, ◌≤◌, ◌<◌}
use Rattle.blocks.specs.private.Trees.{level_of, IsEqualBelow}
use Rattle.blocks.proofs.comparison.first_unequal_below.Given as goal

abbrev pub invariant-loop-at : goal.invariant-loop-at
invariant-loop-at l = record { ahead : l.from ≤ l.at; equal : (k : ℕ) → l.from ≤ k → k < l.at → IsEqualBelow l.nodes (level_of l.nodes l.id) l.id l.other k }

abbrev pub decreases-loop-at : goal.decreases-loop-at
decreases-loop-at l = l.to - l.at
