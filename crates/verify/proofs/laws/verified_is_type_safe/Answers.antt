use Rattle.verify.proofs.verdicts.Verdicts.{verified_is_type_safe}
use Rattle.verify.proofs.laws.verified_is_type_safe.Goals as goal

pub returns : goal.returns
returns c = verified_is_type_safe
