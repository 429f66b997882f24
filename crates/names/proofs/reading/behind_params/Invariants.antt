use Rattle.std.proofs.Common.{length}
use Rattle.names.proofs.Returned.{BehindTypes}
use Rattle.names.proofs.reading.behind_params.Given as goal

abbrev pub invariant-types : goal.invariant-types
invariant-types l = BehindTypes l.bytes l.rest

abbrev pub decreases-types : goal.decreases-types
decreases-types l = length l.rest
