-- No body so far is misshaped, so it rests with the others.
use Rattle.std.proofs.Common.{◌≡◌, drop, map}
use Rattle.std.specs.List.{list_any}
use Rattle.classfile.specs.Views.{nested_view}
use Rattle.classfile.specs.release.DebugTables.{bodies_named, local_variable_type_table, is_misshaped}
use Rattle.classfile.proofs.release_form.debug_tables.has_misshaped.Given as goal

abbrev pub invariant-loop-attribute : goal.invariant-loop-attribute
invariant-loop-attribute l =
    list_any is_misshaped (bodies_named l.pool local_variable_type_table (map nested_view l.code.attributes.items))
    ≡ list_any is_misshaped (bodies_named l.pool local_variable_type_table (map nested_view (drop l.attribute-index l.code.attributes.items)))
