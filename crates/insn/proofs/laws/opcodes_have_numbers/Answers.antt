use Rattle.insn.proofs.Numbers.{by_number, has_number}
use Rattle.insn.proofs.laws.opcodes_have_numbers.Goals as goal

pub returns-clause-number : goal.returns-clause-number
returns-clause-number c = λ o. by_number o

pub returns-clause-opcode : goal.returns-clause-opcode
returns-clause-opcode c = λ n o. has_number n o
