use Rattle.classfile.proofs.LeastRules.{least_is_told, none_is_told}
use Rattle.classfile.proofs.laws.least_rule_is_told.Goals as goal

pub returns-clause-some : goal.returns-clause-some
returns-clause-some c = least_is_told

pub returns-clause-none : goal.returns-clause-none
returns-clause-none c = none_is_told
