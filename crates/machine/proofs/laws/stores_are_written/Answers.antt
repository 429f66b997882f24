use Rattle.machine.proofs.Stores.{stores_are_written}
use Rattle.machine.proofs.laws.stores_are_written.Goals as goal

pub returns : goal.returns
returns c = stores_are_written
