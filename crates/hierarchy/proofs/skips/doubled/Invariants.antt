use Rattle.std.proofs.Common.{◌≡◌, map, take}
use Rattle.hierarchy.specs.private.Skips.{onward}
use Rattle.hierarchy.proofs.skips.doubled.Given as goal

abbrev pub invariant-loop-skip : goal.invariant-loop-skip
invariant-loop-skip l = l.twice.items ≡ map (onward l.skips) (take l.skip-index l.skips)
