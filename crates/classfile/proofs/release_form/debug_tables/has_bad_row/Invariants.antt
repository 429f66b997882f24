-- No row so far is bad, so it rests with the others.
use Rattle.std.proofs.Common.{◌≡◌, drop}
use Rattle.std.specs.List.{list_any}
use Rattle.classfile.specs.private.TextForms.{AreForms}
use Rattle.classfile.specs.Views.{code_view}
use Rattle.classfile.specs.release.DebugTables.{is_bad_row}
use Rattle.classfile.proofs.release_form.debug_tables.has_bad_row.Given as goal

abbrev pub invariant-loop-row : goal.invariant-loop-row
invariant-loop-row l = record {
  kept : AreForms l.pool l.forms;
  rests : list_any (is_bad_row l.table l.pool (code_view l.code)) l.rows ≡ list_any (is_bad_row l.table l.pool (code_view l.code)) (drop l.row-index l.rows);
}
