-- No row so far is this one, and the others stand after them.
use Rattle.std.proofs.Common.{◌≡◌, ◌-◌}
use Rattle.classfile.specs.release.DebugTables.{variables_in, is_alone}
use Rattle.classfile.proofs.release_form.few_rows.is_alone.Given as goal

abbrev pub invariant-loop : goal.invariant-loop
invariant-loop l = is_alone (variables_in l.count l.rows) l.row ≡ is_alone (variables_in (l.count - l.counter) l.rest) l.row
