-- No line so far begins behind the code, so it rests with the others.
use Rattle.std.proofs.Common.{◌≡◌, drop, map, length}
use Rattle.std.specs.Prelude.{nat_le}
use Rattle.std.specs.List.{list_any, flat_map}
use Rattle.classfile.specs.Views.{nested_view}
use Rattle.classfile.specs.release.DebugTables.{bodies_named, line_number_table, starts_of}
use Rattle.classfile.proofs.release_form.debug_tables.has_bad_line.Given as goal

abbrev pub invariant-loop-attribute : goal.invariant-loop-attribute
invariant-loop-attribute l =
    let test = nat_le (length l.code.code.now) in
    list_any test (flat_map starts_of (bodies_named l.pool line_number_table (map nested_view l.code.attributes.items)))
    ≡ list_any test (flat_map starts_of (bodies_named l.pool line_number_table (map nested_view (drop l.attribute-index l.code.attributes.items))))
