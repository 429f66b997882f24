use Rattle.machine.proofs.SharedWords.{receivers_are_said, ranges_are_said, own_fields_are_said, targets_are_said}
use Rattle.machine.proofs.laws.shared_words_are_said.Goals as goal

pub returns-clause-receivers : goal.returns-clause-receivers
returns-clause-receivers c = receivers_are_said

pub returns-clause-ranges : goal.returns-clause-ranges
returns-clause-ranges c = ranges_are_said

pub returns-clause-own_fields : goal.returns-clause-own_fields
returns-clause-own_fields c = own_fields_are_said

pub returns-clause-targets : goal.returns-clause-targets
returns-clause-targets c = targets_are_said
