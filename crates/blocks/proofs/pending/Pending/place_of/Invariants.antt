use Rattle.std.proofs.Common.{◌≤◌, drop, length}
use Rattle.blocks.specs.private.Pending.{ShowsEarlier}
use Rattle.blocks.proofs.pending.Pending.place_of.Given as goal

abbrev pub invariant-loop-place : goal.invariant-loop-place
invariant-loop-place l = record {
  within : l.place ≤ length l.self.pairs.items;
  earlier : ShowsEarlier l.pair (drop l.place l.self.pairs.items);
}

abbrev pub decreases-loop-place : goal.decreases-loop-place
decreases-loop-place l = l.place
