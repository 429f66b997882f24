-- No row so far breaks the rule, and the others stand after them.
use Rattle.std.proofs.Common.{◌≡◌, ◌-◌}
use Rattle.std.specs.List.{list_any}
use Rattle.classfile.specs.Numbers.{rows_in}
use Rattle.classfile.specs.NumberForm.{breaks, row_breaks}
use Rattle.classfile.proofs.number_form.rows_break.Given as goal

abbrev pub invariant-loop : goal.invariant-loop
invariant-loop l =
    list_any (row_breaks (breaks l.pool l.rule) l.columns) (rows_in l.columns l.count l.bytes)
    ≡ list_any (row_breaks (breaks l.pool l.rule) l.columns) (rows_in l.columns (l.count - l.counter) l.rest)
