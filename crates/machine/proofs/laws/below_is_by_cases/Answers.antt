use Rattle.machine.proofs.Below.{below_is_by_cases, arrays_are_below_three}
use Rattle.machine.proofs.laws.below_is_by_cases.Goals as goal

pub returns-clause-cases : goal.returns-clause-cases
returns-clause-cases c = below_is_by_cases

pub returns-clause-arrays : goal.returns-clause-arrays
returns-clause-arrays c = arrays_are_below_three
