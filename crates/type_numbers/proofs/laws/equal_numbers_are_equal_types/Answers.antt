use Rattle.type_numbers.proofs.Decoded.{one_type}
use Rattle.type_numbers.proofs.laws.equal_numbers_are_equal_types.Goals as goal

pub returns : goal.returns
returns c = one_type
