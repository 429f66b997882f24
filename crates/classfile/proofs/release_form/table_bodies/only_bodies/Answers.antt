use Rattle.std.proofs.Common.{◌≡◌, Some, map}
use Rattle.std.specs.Prelude.{slice_get}
use Rattle.classfile.specs.private.TableBodies.{bodies}
use Rattle.classfile.specs.release.DebugTables.{line_number_table, local_variable_table, local_variable_type_table}
use Rattle.classfile.specs.Values.{Nested}
use Rattle.classfile.specs.Views.{nested_view}
use Rattle.classfile.proofs.DebugBodies.{one_more}
use Rattle.classfile.proofs.Places.{viewed_at}
use Rattle.classfile.proofs.release_form.table_bodies.only_bodies.Goals as goal

pub loop-attribute-preserved : goal.loop-attribute-preserved
loop-attribute-preserved c =
    let pool = c.args.pool.now in
    let all = map nested_view c.args.attributes.now in
    let at = c.loop-attribute.attribute-index in
    let a : Nested = nested_view c.attribute-item.result in
    let here : slice_get all at ≡ Some a =
    viewed_at nested_view c.args.attributes.now at c.attribute-item.result c.loop-attribute-test.true c.attribute-item.is in
    let met = c.meet.ensures c.if-not-meet.false in
    let old = c.loop-attribute.bodies in
    let new = c.meet.new.self in
    record {
      lines = one_more pool line_number_table all at a (bodies old.lines) (bodies new.lines) here met.lines c.loop-attribute.invariant.lines;
      variables = one_more pool local_variable_table all at a (bodies old.variables) (bodies new.variables) here met.variables c.loop-attribute.invariant.variables;
      types = one_more pool local_variable_type_table all at a (bodies old.types) (bodies new.types) here met.types c.loop-attribute.invariant.types;
    }
