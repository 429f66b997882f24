use Rattle.rules.proofs.Directions.{way_of}
use Rattle.rules.proofs.ways.typing_rules_go_as_acts.Goals as goal

pub returns : goal.returns
returns c = λ m a. ((way_of m a).falls_on, (way_of m a).branches)
