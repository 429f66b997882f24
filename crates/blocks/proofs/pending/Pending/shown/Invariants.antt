use Rattle.std.proofs.Common.{◌≡◌, drop}
use Rattle.blocks.specs.private.Pending.{shown}
use Rattle.blocks.proofs.pending.Pending.shown.Given as goal

abbrev pub invariant-loop-pair : goal.invariant-loop-pair
invariant-loop-pair l = shown (drop l.pair-index l.self.pairs.items) l.shown ≡ shown l.self.pairs.items l.number
