use Rattle.verify.proofs.ToldDetails.{details_are_told}
use Rattle.verify.proofs.laws.details_are_told.Goals as goal

pub returns : goal.returns
returns c = details_are_told
