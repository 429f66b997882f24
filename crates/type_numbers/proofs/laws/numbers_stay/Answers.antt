use Rattle.type_numbers.proofs.LawsOfNumbers.{number_stays}
use Rattle.type_numbers.proofs.laws.numbers_stay.Goals as goal

pub returns : goal.returns
returns c = number_stays
