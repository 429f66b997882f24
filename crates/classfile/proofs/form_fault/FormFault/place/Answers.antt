use Rattle.std.proofs.Common.{rules}
use Rattle.classfile.proofs.form_fault.FormFault.place.Goals as goal

pub returns-in-Broken : goal.returns-in-Broken
returns-in-Broken c = search rules
