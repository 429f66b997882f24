use Rattle.verify.proofs.SeenMethods.{methods_are_seen}
use Rattle.verify.proofs.laws.methods_are_seen.Goals as goal

pub returns : goal.returns
returns c = methods_are_seen
