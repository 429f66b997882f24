use Rattle.machine.proofs.OperandTypes.{operands_are_typed, own_object_is_done}
use Rattle.machine.proofs.StackRoom.{stack_is_within}
use Rattle.machine.proofs.laws.operands_are_typed.Goals as goal

pub returns-clause-operands : goal.returns-clause-operands
returns-clause-operands c = operands_are_typed

pub returns-clause-stack : goal.returns-clause-stack
returns-clause-stack c = stack_is_within

pub returns-clause-own_object : goal.returns-clause-own_object
returns-clause-own_object c = own_object_is_done
