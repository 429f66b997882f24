use Rattle.std.proofs.Common.{rules}
use Rattle.classfile.proofs.constant_form.dynamic_rule.Goals as goal

pub returns-then-is_no_field : goal.returns-then-is_no_field
returns-then-is_no_field c = search rules

pub returns-else-is_no_field : goal.returns-else-is_no_field
returns-else-is_no_field c = search rules
