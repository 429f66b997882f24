use Rattle.insn.proofs.CodeLaws.{one_code, code_or_fault, one_fault}
use Rattle.insn.proofs.laws.code_is_one_list.Goals as goal

pub returns-clause-one : goal.returns-clause-one
returns-clause-one c = λ bytes xs ys. one_code 0 bytes xs ys

pub returns-clause-either : goal.returns-clause-either
returns-clause-either c = λ bytes xs e. code_or_fault bytes xs e

pub returns-clause-fault : goal.returns-clause-fault
returns-clause-fault c = λ bytes e f. one_fault bytes e f
