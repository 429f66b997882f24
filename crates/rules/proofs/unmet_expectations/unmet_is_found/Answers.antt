use Rattle.rules.proofs.FoundOperands.{unmet_is_found}
use Rattle.rules.proofs.unmet_expectations.unmet_is_found.Goals as goal

pub returns : goal.returns
returns c = unmet_is_found
