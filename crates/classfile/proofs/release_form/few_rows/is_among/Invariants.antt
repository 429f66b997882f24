-- No row so far is this one, and the others stand after them.
use Rattle.std.proofs.Common.{◌≡◌, ◌-◌}
use Rattle.std.specs.List.{list_any}
use Rattle.classfile.specs.release.DebugTables.{variables_in, are_same}
use Rattle.classfile.proofs.release_form.few_rows.is_among.Given as goal

abbrev pub invariant-loop : goal.invariant-loop
invariant-loop l = list_any (are_same l.row) (variables_in l.count l.rows) ≡ list_any (are_same l.row) (variables_in (l.count - l.counter) l.rest)
