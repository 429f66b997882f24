use Rattle.std.proofs.Common.{length}
use Rattle.names.proofs.ShapeLaws.{Measuring}
use Rattle.names.proofs.shape.measure_params.Given as goal

abbrev pub invariant-types : goal.invariant-types
invariant-types l = Measuring l.bytes l.rest l.measured

abbrev pub decreases-types : goal.decreases-types
decreases-types l = length l.rest
