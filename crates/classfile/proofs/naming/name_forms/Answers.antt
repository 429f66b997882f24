use Rattle.classfile.specs.Naming.{is_class_name, is_unqualified_name, is_method_name}
use Rattle.classfile.proofs.NamingLaws.{same, class_name_is, is_class_name_so, unqualified_is, is_unqualified_so, method_name_is, is_method_name_so}
use Rattle.classfile.proofs.naming.name_forms.Goals as goal

pub returns-clause-class : goal.returns-clause-class
returns-clause-class c =
    let bytes = c.args.text.bytes.now in
    let so = c.name_forms.ensures.class in
    same c.name_forms.result.class_name (is_class_name bytes) so.0 so.1 (class_name_is bytes) (is_class_name_so bytes)

pub returns-clause-unqualified : goal.returns-clause-unqualified
returns-clause-unqualified c =
    let bytes = c.args.text.bytes.now in
    let so = c.name_forms.ensures.unqualified in
    same c.name_forms.result.unqualified_name (is_unqualified_name bytes) so.0 so.1 (unqualified_is bytes) (is_unqualified_so bytes)

pub returns-clause-method : goal.returns-clause-method
returns-clause-method c =
    let bytes = c.args.text.bytes.now in
    let so = c.name_forms.ensures.method in
    same c.name_forms.result.method_name (is_method_name bytes) so.0 so.1 (method_name_is bytes) (is_method_name_so bytes)
