use Rattle.std.proofs.Common.{◌∙◌, sym}
use Rattle.classfile.proofs.FormKinds.{as_method, as_field}
use Rattle.classfile.proofs.text_forms.DescriptorFormTextForm.form_of.Goals as goal

pub returns-then-begins_with : goal.returns-then-begins_with
returns-then-begins_with c =
    as_method c.args.text.bytes.now c.method_form.result (sym c.begins_with.ensures ∙ c.if-begins_with.true) c.method_form.ensures

pub returns-else-begins_with : goal.returns-else-begins_with
returns-else-begins_with c =
    as_field c.args.text.bytes.now c.is_field_descriptor.result (sym c.begins_with.ensures ∙ c.if-begins_with.false) c.is_field_descriptor.ensures
