use Rattle.machine.proofs.Uses.{operands_are_initialized, objects_are_initialized}
use Rattle.machine.proofs.laws.used_is_initialized.Goals as goal

pub returns-clause-operands : goal.returns-clause-operands
returns-clause-operands c = operands_are_initialized

pub returns-clause-objects : goal.returns-clause-objects
returns-clause-objects c = objects_are_initialized
