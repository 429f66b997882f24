use Rattle.std.proofs.Common.{rules}
use Rattle.classfile.proofs.constant_form.field_rule.Goals as goal

pub returns-then-is_no_field : goal.returns-then-is_no_field
returns-then-is_no_field c = search rules
