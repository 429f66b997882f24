use Rattle.std.proofs.Common.{◌∙◌, sym}
use Rattle.classfile.proofs.FormKinds.{array_name, other_name}
use Rattle.classfile.proofs.text_forms.names_class.Goals as goal

pub returns-then-is_array_name : goal.returns-then-is_array_name
returns-then-is_array_name c = c.is_field_descriptor.ensures ∙ array_name c.args.text.bytes.now (sym c.is_array_name.ensures ∙ c.if-is_array_name.true)

pub returns-else-is_array_name : goal.returns-else-is_array_name
returns-else-is_array_name c = c.is_class_name.ensures ∙ other_name c.args.text.bytes.now (sym c.is_array_name.ensures ∙ c.if-is_array_name.false)
