use Rattle.hierarchy.proofs.Nearby.{computed}
use Rattle.hierarchy.proofs.laws.nearest_is_computed.Goals as goal

pub returns : goal.returns
returns c = computed
