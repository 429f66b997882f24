-- The rows of the tables so far, with those of the others behind them.
use Rattle.std.proofs.Common.{◌≡◌, ◌++◌, drop, map}
use Rattle.std.specs.List.{flat_map}
use Rattle.classfile.specs.Views.{nested_view}
use Rattle.classfile.specs.release.DebugTables.{bodies_named, variables_of}
use Rattle.classfile.proofs.release_form.debug_tables.variables_named.Given as goal

abbrev pub invariant-loop-attribute : goal.invariant-loop-attribute
invariant-loop-attribute l =
    l.variables.items ++ flat_map variables_of (bodies_named l.pool l.name (map nested_view (drop l.attribute-index l.code.attributes.items)))
    ≡ flat_map variables_of (bodies_named l.pool l.name (map nested_view l.code.attributes.items))
