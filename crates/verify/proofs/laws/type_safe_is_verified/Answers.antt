use Rattle.verify.proofs.verdicts.Verdicts.{type_safe_is_verified}
use Rattle.verify.proofs.laws.type_safe_is_verified.Goals as goal

pub returns : goal.returns
returns c = type_safe_is_verified
