-- No row so far stands twice or is bad, and the others stand after them.
use Rattle.std.proofs.Common.{◌≡◌, ◌-◌}
use Rattle.classfile.specs.private.TableBodies.{rows_in, are_bad_rows}
use Rattle.classfile.specs.private.TextForms.{AreForms}
use Rattle.classfile.specs.Views.{code_view}
use Rattle.classfile.specs.release.DebugTables.{variables_in}
use Rattle.classfile.proofs.release_form.few_rows.are_bad_rows.Given as goal

abbrev pub invariant-loop-n : goal.invariant-loop-n
invariant-loop-n l = record {
  kept : AreForms l.pool l.forms;
  rests : are_bad_rows l.table l.pool (code_view l.code) (rows_in l.rows)
      ≡ are_bad_rows l.table l.pool (code_view l.code) (variables_in (l.rows.count - l.n) l.rest);
}
