-- No row so far breaks the rule, and the others stand after them.
use Rattle.std.proofs.Common.{◌≡◌, ◌-◌}
use Rattle.std.specs.List.{list_any}
use Rattle.classfile.specs.declared.number_form.IndexRule.TheVariants.{Both}
use Rattle.classfile.specs.private.IndexColumns.{variable}
use Rattle.classfile.specs.Numbers.{rows_in}
use Rattle.classfile.specs.NumberForm.{breaks, row_breaks}
use Rattle.classfile.proofs.number_form.variables_break.Given as goal

abbrev pub invariant-loop-done : goal.invariant-loop-done
invariant-loop-done l =
    list_any (row_breaks (breaks l.pool Both) variable) (rows_in variable l.count l.bytes)
    ≡ list_any (row_breaks (breaks l.pool Both) variable) (rows_in variable (l.count - l.done) l.rest)
