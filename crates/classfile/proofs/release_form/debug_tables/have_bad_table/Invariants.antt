-- No Code attribute so far has a bad table, so it rests with the others.
use Rattle.std.proofs.Common.{◌≡◌, drop, map}
use Rattle.std.specs.List.{list_any}
use Rattle.classfile.specs.AttributeForm.{on_body}
use Rattle.classfile.specs.private.TextForms.{AreForms}
use Rattle.classfile.specs.Views.{attribute_view}
use Rattle.classfile.specs.release.DebugTables.{has_bad_table}
use Rattle.classfile.proofs.release_form.debug_tables.have_bad_table.Given as goal

abbrev pub invariant-loop-attribute : goal.invariant-loop-attribute
invariant-loop-attribute l = record {
  kept : AreForms l.pool l.forms;
  rests : list_any (on_body (has_bad_table l.major l.pool)) (map attribute_view l.attributes)
      ≡ list_any (on_body (has_bad_table l.major l.pool)) (map attribute_view (drop l.attribute-index l.attributes));
}
