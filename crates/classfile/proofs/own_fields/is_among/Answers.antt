use Rattle.std.proofs.Common.{◌≡◌, ◌+◌, ◌∙◌, ◌||◌, Some, sym, ap, map, drop}
use Rattle.std.specs.Prelude.{slice_get}
use Rattle.classfile.specs.Values.{Member}
use Rattle.classfile.specs.Methods.{is_declared, declared_fields}
use Rattle.classfile.specs.Views.{member_view}
use Rattle.classfile.proofs.Places.{viewed_at}
use Rattle.classfile.proofs.DeclaredFieldLaws.{from_one}
use Rattle.classfile.proofs.own_fields.is_among.Goals as goal

pub returns-then-is_named : goal.returns-then-is_named
returns-then-is_named c =
    let pool = c.args.pool.now in
    let xs = map member_view c.args.fields.now in
    let at = c.loop-field.field-index in
    let f : Member = member_view c.field-item.result in
    let here : slice_get xs at ≡ Some f = viewed_at member_view c.args.fields.now at c.field-item.result c.loop-field-test.true c.field-item.is in
    let rest = is_declared (declared_fields pool (drop (at + 1) xs)) c.args.name.now c.args.descriptor.now in
    sym (c.loop-field.invariant ∙ from_one pool xs at f c.args.name.now c.args.descriptor.now here ∙ ap (λ b. b || rest) (sym c.is_named.ensures ∙ c.if-is_named.true))

pub loop-field-preserved : goal.loop-field-preserved
loop-field-preserved c =
    let pool = c.args.pool.now in
    let xs = map member_view c.args.fields.now in
    let at = c.loop-field.field-index in
    let f : Member = member_view c.field-item.result in
    let here : slice_get xs at ≡ Some f = viewed_at member_view c.args.fields.now at c.field-item.result c.loop-field-test.true c.field-item.is in
    let rest = is_declared (declared_fields pool (drop (at + 1) xs)) c.args.name.now c.args.descriptor.now in
    c.loop-field.invariant ∙ from_one pool xs at f c.args.name.now c.args.descriptor.now here ∙ ap (λ b. b || rest) (sym c.is_named.ensures ∙ c.if-is_named.false)
