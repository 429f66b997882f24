-- No number so far breaks the rule, and the others stand after them.
use Rattle.std.proofs.Common.{◌≡◌, drop}
use Rattle.classfile.specs.Numbers.{row_in, behind_row}
use Rattle.classfile.specs.NumberForm.{breaks, row_breaks}
use Rattle.classfile.proofs.number_form.sound_row.Given as goal

abbrev pub invariant-loop-column : goal.invariant-loop-column
invariant-loop-column l =
    (row_breaks (breaks l.pool l.rule) l.columns (row_in l.columns l.bytes)
    ≡ row_breaks (breaks l.pool l.rule) (drop l.column-index l.columns) (row_in (drop l.column-index l.columns) l.rest))
    × (behind_row l.columns l.bytes ≡ behind_row (drop l.column-index l.columns) l.rest)
