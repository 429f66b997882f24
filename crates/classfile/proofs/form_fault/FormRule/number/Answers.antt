use Rattle.std.proofs.Common.{rules}
use Rattle.classfile.proofs.form_fault.FormRule.number.Goals as goal

pub returns-in-BadSuper : goal.returns-in-BadSuper
returns-in-BadSuper c = search rules
