use Rattle.verify.proofs.Walking.{walks_are_runs}
use Rattle.verify.proofs.laws.walks_are_runs.Goals as goal

pub returns : goal.returns
returns c = walks_are_runs
