use Rattle.std.proofs.Common.{length}
use Rattle.names.proofs.Kept.{InParams}
use Rattle.names.proofs.reading.read_params.Given as goal

abbrev pub invariant-types : goal.invariant-types
invariant-types l = InParams l.bytes l.params l.rest

abbrev pub decreases-types : goal.decreases-types
decreases-types l = length l.rest
