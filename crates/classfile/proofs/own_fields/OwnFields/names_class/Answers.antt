use Rattle.std.proofs.Common.{◌≡◌, ◌∙◌, Result, Ok, ap, subst}
use Rattle.pool.specs.declared.constant.Constant.{Constant}
use Rattle.pool.specs.declared.fault.PoolFault.{PoolFault}
use Rattle.pool.specs.Entries.{Entry}
use Rattle.pool.specs.Views.{view}
use Rattle.pool.specs.Lookups.{class_name_at, field_ref_at}
use Rattle.classfile.specs.Indices.{on_found}
use Rattle.classfile.specs.declared.class_file.ClassFile.{ClassFile}
use Rattle.classfile.specs.DeclaredFields.{is_field_of}
use Rattle.classfile.proofs.FieldIndices.{class_named_at}
use Rattle.classfile.proofs.own_fields.OwnFields.names_class.Goals as goal

pub returns-in-Ok-Fieldref-clause-name : goal.returns-in-Ok-Fieldref-clause-name
returns-in-Ok-Fieldref-clause-name c is f here =
    let class = c.self.inside.class.now in
    let here_is = c.in-Ok-Fieldref.ensures ∙ ap (λ (k : Constant). (let r : Result Entry PoolFault = Ok (view k) in r)) c.in-Ok-Fieldref.field-0-is in
    let at = class_named_at class.constant_pool c.args.field class.this_class f (ap (on_found (is_field_of class.this_class)) here_is ∙ is) in
    subst (λ (x : ClassFile). field_ref_at x.constant_pool c.args.field ≡ Ok f → class_name_at x.constant_pool x.this_class ≡ Ok f.class) c.self.view_is at here
