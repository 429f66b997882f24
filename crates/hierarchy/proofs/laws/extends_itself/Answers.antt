use Rattle.hierarchy.proofs.Worlds.{itself}
use Rattle.hierarchy.proofs.laws.extends_itself.Goals as goal

pub returns : goal.returns
returns c = itself
