-- No type so far is alone, and the others stand after them.
use Rattle.std.proofs.Common.{◌≡◌, ◌-◌}
use Rattle.std.specs.List.{list_any}
use Rattle.classfile.specs.private.TableBodies.{rows_in}
use Rattle.classfile.specs.release.DebugTables.{variables_in, is_alone}
use Rattle.classfile.proofs.release_form.few_rows.one_is_alone.Given as goal

abbrev pub invariant-loop : goal.invariant-loop
invariant-loop l =
    list_any (is_alone (rows_in l.variables)) (rows_in l.types)
    ≡ list_any (is_alone (rows_in l.variables)) (variables_in (l.types.count - l.counter) l.rest)
