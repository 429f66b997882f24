use Rattle.std.proofs.Common.{◌-◌, length}
use Rattle.names.proofs.ShapeSeen.{Seeing}
use Rattle.names.proofs.shape.params_seen.Given as goal

abbrev pub invariant-types : goal.invariant-types
invariant-types l = Seeing l.bytes l.at l.units

abbrev pub decreases-types : goal.decreases-types
decreases-types l = length l.bytes - l.at
