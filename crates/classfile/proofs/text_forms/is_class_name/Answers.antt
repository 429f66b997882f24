use Rattle.classfile.specs.Naming.{is_class_name}
use Rattle.classfile.proofs.NamingLaws.{same, class_name_is, is_class_name_so}
use Rattle.classfile.proofs.text_forms.is_class_name.Goals as goal

pub returns : goal.returns
returns c =
    let bytes = c.args.text.bytes.now in
    let so = c.is_class_name.ensures in
    same c.is_class_name.result (is_class_name bytes) so.0 so.1 (class_name_is bytes) (is_class_name_so bytes)
