use Rattle.hierarchy.proofs.Worlds.{chain_steps}
use Rattle.hierarchy.proofs.laws.chains_are_steps.Goals as goal

pub returns : goal.returns
returns c = chain_steps
