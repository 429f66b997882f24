use Rattle.verify.proofs.ToldEntries.{map_details_are_told}
use Rattle.verify.proofs.laws.map_details_are_told.Goals as goal

pub returns : goal.returns
returns c = map_details_are_told
