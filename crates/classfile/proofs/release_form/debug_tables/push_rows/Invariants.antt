-- The rows so far, with the others behind them.
use Rattle.std.proofs.Common.{◌≡◌, ◌++◌, ◌-◌}
use Rattle.classfile.specs.release.DebugTables.{variables_in}
use Rattle.classfile.proofs.release_form.debug_tables.push_rows.Given as goal

abbrev pub invariant-loop : goal.invariant-loop
invariant-loop l =
    l.variables.items ++ variables_in (l.count - l.counter) l.rest ≡ l.fn.variables.items ++ variables_in l.count l.rows
