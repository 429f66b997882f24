use Rattle.machine.proofs.NamedConstants.{constants_are_named}
use Rattle.machine.proofs.laws.constants_are_named.Goals as goal

pub returns : goal.returns
returns c = constants_are_named
