use Rattle.std.proofs.Common.{rules}
use Rattle.classfile.proofs.class_form.class_rule.Goals as goal

pub returns-then-has_bad_super : goal.returns-then-has_bad_super
returns-then-has_bad_super c = search rules
