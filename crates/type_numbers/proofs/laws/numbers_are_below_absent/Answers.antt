use Rattle.type_numbers.proofs.Decoded.{below_absent}
use Rattle.type_numbers.proofs.laws.numbers_are_below_absent.Goals as goal

pub returns : goal.returns
returns c = below_absent
