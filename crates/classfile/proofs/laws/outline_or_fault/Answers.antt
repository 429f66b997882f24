use Rattle.classfile.proofs.OutlineFaults.{outline_or_fault, no_fault_behind}
use Rattle.classfile.proofs.laws.outline_or_fault.Goals as goal

pub returns-clause-either : goal.returns-clause-either
returns-clause-either c stream = outline_or_fault stream

pub returns-clause-apart : goal.returns-clause-apart
returns-clause-apart c front rest e s t = no_fault_behind front rest e s t
