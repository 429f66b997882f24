use Rattle.std.proofs.lemmas.Result.{err_from_is_err_and}
use Rattle.classfile.specs.Views.{class_view}
use Rattle.classfile.proofs.FirstFaults.{pool_told, class_told, fields_told, all_told}
use Rattle.classfile.proofs.form.places_form.Goals as goal

pub returns-in_err-pool_form : goal.returns-in_err-pool_form
returns-in_err-pool_form c =
    let p = err_from_is_err_and c.from_residual-in_err-pool_form.result c.from_residual-in_err-pool_form.ensures.1 in
    rw (p.1, p.2) (pool_told (class_view c.args.class.now) c.in_err-pool_form.field-0.0 c.in_err-pool_form.ensures.passes)

pub returns-in_err-class_form : goal.returns-in_err-class_form
returns-in_err-class_form c =
    let p = err_from_is_err_and c.from_residual-in_err-class_form.result c.from_residual-in_err-class_form.ensures.1 in
    rw (p.1, p.2) (class_told (class_view c.args.class.now) c.in_ok-pool_form.ensures.passes c.in_err-class_form.field-0.0 c.in_err-class_form.ensures)

pub returns-in_err-fields_form : goal.returns-in_err-fields_form
returns-in_err-fields_form c =
    let p = err_from_is_err_and c.from_residual-in_err-fields_form.result c.from_residual-in_err-fields_form.ensures.1 in
    rw (p.1, p.2) (fields_told (class_view c.args.class.now) c.in_ok-pool_form.ensures.passes c.in_ok-class_form.ensures c.in_err-fields_form.field-0.0 c.in_err-fields_form.ensures.passes)

pub returns : goal.returns
returns c =
    all_told (class_view c.args.class.now) c.in_ok-pool_form.ensures.passes c.in_ok-class_form.ensures c.in_ok-fields_form.ensures.passes c.methods_form.result c.methods_form.ensures
