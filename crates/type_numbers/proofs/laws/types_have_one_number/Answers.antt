use Rattle.type_numbers.proofs.LawsOfNumbers.{one_number}
use Rattle.type_numbers.proofs.laws.types_have_one_number.Goals as goal

pub returns : goal.returns
returns c = one_number
