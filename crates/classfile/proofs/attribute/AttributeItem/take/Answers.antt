use Rattle.std.proofs.Common.{sym}
use Rattle.std.proofs.lemmas.Result.{err_from_is_err_and}
use Rattle.layout.specs.Faults.{UnlessMemory-map}
use Rattle.classfile.specs.Locations.{is_code}
use Rattle.classfile.specs.Layouts.{layout_at}
use Rattle.classfile.specs.ClassFile.{code, attribute, kept}
use Rattle.classfile.specs.Values.{of_parts}
use Rattle.classfile.specs.Views.{code_view}
use Rattle.classfile.specs.private.AttributeInfos.{info_view}
use Rattle.classfile.proofs.Bodies.{opened, field_ok, field_err}
use Rattle.classfile.proofs.attribute.AttributeItem.take.Goals as goal

pub returns-in_ok-new : goal.returns-in_ok-new
unfolding attribute
returns-in_ok-new c =
    let read = c.in_ok-code.ensures in
    rw c.in_ok-new.ensures.ok
    (field_ok (is_code c.args.pool.now c.args.location) (code c.args.pool.now) (λ name value. of_parts name value) (λ i. kept (layout_at c.args.pool.now c.args.location i.name) i.name i.size i.body)
    c.args.cursor.now.at c.args.cursor.now.rest (info_view c.in_ok-at.field-0) c.in_ok-at.field-0.start c.take_info.new.cursor
    (opened c.in_ok-at.field-0 c.in_ok-at.ensures.reads c.in_ok-at.ensures.stands c.if-is_code.ensures)
    (code_view c.in_ok-code.code) read.0 read.1 read.2)

pub returns-in_err-code : goal.returns-in_err-code
unfolding attribute
returns-in_err-code c =
    let p = err_from_is_err_and c.from_residual-in_err-code.result c.from_residual-in_err-code.ensures.1 in
    rw (p.1, p.2) (UnlessMemory-map c.in_err-code.field-0.0
    (λ e. field_err (is_code c.args.pool.now c.args.location) (code c.args.pool.now) (λ name value. of_parts name value) (λ i. kept (layout_at c.args.pool.now c.args.location i.name) i.name i.size i.body)
    c.args.cursor.now.at c.args.cursor.now.rest (info_view c.in_ok-at.field-0) c.in_ok-at.field-0.start c.take_info.new.cursor
    (opened c.in_ok-at.field-0 c.in_ok-at.ensures.reads c.in_ok-at.ensures.stands c.if-is_code.ensures)
    c.in_err-code.field-0.0 (rw (← c.in_ok-at.ensures.stands.0) e))
    c.in_err-code.ensures)
