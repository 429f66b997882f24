use Rattle.frames.proofs.SlotTypes.{equal_types, equal_is_yes}
use Rattle.frames.proofs.laws.equal_slots_are_equal_types.Goals as goal

pub returns-clause-types : goal.returns-clause-types
returns-clause-types c = equal_types

pub returns-clause-answers : goal.returns-clause-answers
returns-clause-answers c = equal_is_yes
