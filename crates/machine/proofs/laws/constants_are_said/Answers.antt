use Rattle.machine.proofs.SharedWords.{constants_are_said}
use Rattle.machine.proofs.laws.constants_are_said.Goals as goal

pub returns : goal.returns
returns c = constants_are_said
