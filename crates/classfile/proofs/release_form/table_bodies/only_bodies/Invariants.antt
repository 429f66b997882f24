-- The bodies that were found are the only ones so far.
use Rattle.std.proofs.Common.{◌≡◌, ◌++◌, map, drop}
use Rattle.classfile.specs.private.TableBodies.{bodies}
use Rattle.classfile.specs.release.DebugTables.{bodies_named, line_number_table, local_variable_table, local_variable_type_table}
use Rattle.classfile.specs.Views.{nested_view}
use Rattle.classfile.proofs.release_form.table_bodies.only_bodies.Given as goal

abbrev pub invariant-loop-attribute : goal.invariant-loop-attribute
invariant-loop-attribute l =
    let all = map nested_view l.attributes in
    let rest = drop l.attribute-index all in
    record {
      lines : bodies_named l.pool line_number_table all ≡ bodies l.bodies.lines ++ bodies_named l.pool line_number_table rest;
      variables : bodies_named l.pool local_variable_table all ≡ bodies l.bodies.variables ++ bodies_named l.pool local_variable_table rest;
      types : bodies_named l.pool local_variable_type_table all ≡ bodies l.bodies.types ++ bodies_named l.pool local_variable_type_table rest;
    }
