use Rattle.std.proofs.Common.{sym, map}
use Rattle.std.proofs.lemmas.Result.{err_from_is_err_and}
use Rattle.layout.specs.Faults.{UnlessMemory-map}
use Rattle.classfile.specs.Locations.{is_record}
use Rattle.classfile.specs.Layouts.{layout_at}
use Rattle.classfile.specs.ClassFile.{components, class_attribute, kept}
use Rattle.classfile.specs.Values.{of_parts}
use Rattle.classfile.specs.Views.{component_view}
use Rattle.classfile.specs.private.AttributeInfos.{info_view}
use Rattle.classfile.proofs.Bodies.{opened, field_ok, field_err}
use Rattle.classfile.proofs.class_attribute.ClassAttributeItem.take.Goals as goal

pub returns-in_ok-components : goal.returns-in_ok-components
unfolding class_attribute
returns-in_ok-components c =
    let read = c.in_ok-components.ensures in
    (field_ok (is_record c.args.pool.now c.args.location) (components c.args.pool.now) (λ name value. of_parts name value) (λ i. kept (layout_at c.args.pool.now c.args.location i.name) i.name i.size i.body)
    c.args.cursor.now.at c.args.cursor.now.rest (info_view c.in_ok-at.field-0) c.in_ok-at.field-0.start c.take_info.new.cursor
    (opened c.in_ok-at.field-0 c.in_ok-at.ensures.reads c.in_ok-at.ensures.stands c.if-is_record.ensures)
    (map component_view c.in_ok-components.components.items) read.0 read.1 read.2)

pub returns-in_err-components : goal.returns-in_err-components
unfolding class_attribute
returns-in_err-components c =
    let p = err_from_is_err_and c.from_residual-in_err-components.result c.from_residual-in_err-components.ensures.1 in
    rw (p.1, p.2) (UnlessMemory-map c.in_err-components.field-0.0
    (λ e. field_err (is_record c.args.pool.now c.args.location) (components c.args.pool.now) (λ name value. of_parts name value) (λ i. kept (layout_at c.args.pool.now c.args.location i.name) i.name i.size i.body)
    c.args.cursor.now.at c.args.cursor.now.rest (info_view c.in_ok-at.field-0) c.in_ok-at.field-0.start c.take_info.new.cursor
    (opened c.in_ok-at.field-0 c.in_ok-at.ensures.reads c.in_ok-at.ensures.stands c.if-is_record.ensures)
    c.in_err-components.field-0.0 (rw (← c.in_ok-at.ensures.stands.0) e))
    c.in_err-components.ensures)
