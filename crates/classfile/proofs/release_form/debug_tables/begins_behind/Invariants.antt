-- No line so far begins behind, and the others stand after them.
use Rattle.std.proofs.Common.{◌≡◌, ◌-◌}
use Rattle.std.specs.Prelude.{nat_le}
use Rattle.std.specs.List.{list_any}
use Rattle.classfile.specs.release.DebugTables.{starts_in}
use Rattle.classfile.proofs.release_form.debug_tables.begins_behind.Given as goal

abbrev pub invariant-loop : goal.invariant-loop
invariant-loop l = list_any (nat_le l.end) (starts_in l.count l.rows) ≡ list_any (nat_le l.end) (starts_in (l.count - l.counter) l.rest)
