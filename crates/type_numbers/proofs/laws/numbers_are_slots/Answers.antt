use Rattle.type_numbers.proofs.LawsOfNumbers.{number_is_slot}
use Rattle.type_numbers.proofs.laws.numbers_are_slots.Goals as goal

pub returns : goal.returns
returns c = number_is_slot
