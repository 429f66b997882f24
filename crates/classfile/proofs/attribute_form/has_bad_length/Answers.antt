use Rattle.std.proofs.Common.{rules}
use Rattle.classfile.proofs.attribute_form.has_bad_length.Goals as goal

pub returns-else-is_empty : goal.returns-else-is_empty
returns-else-is_empty c = search rules
