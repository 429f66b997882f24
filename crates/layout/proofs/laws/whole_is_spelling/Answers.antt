use Rattle.layout.specs.Whole.{whole_or_fault, no_fault_in_whole, one_whole_fault}
use Rattle.layout.proofs.laws.whole_is_spelling.Goals as goal

pub returns-clause-either : goal.returns-clause-either
returns-clause-either g c = λ f behind bytes. whole_or_fault f behind bytes

pub returns-clause-apart : goal.returns-clause-apart
returns-clause-apart g c = λ f behind bytes v e. no_fault_in_whole f behind bytes v e

pub returns-clause-one : goal.returns-clause-one
returns-clause-one g c = λ f behind bytes d e. one_whole_fault f behind bytes d e
