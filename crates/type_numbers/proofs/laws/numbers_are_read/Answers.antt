use Rattle.type_numbers.proofs.Decoded.{number_read}
use Rattle.type_numbers.proofs.laws.numbers_are_read.Goals as goal

pub returns : goal.returns
returns c = number_read
