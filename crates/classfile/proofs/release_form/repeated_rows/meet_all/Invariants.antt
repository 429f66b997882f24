-- The rows so far were met, none of them twice.
use Rattle.std.proofs.Common.{◌≡◌, drop, take}
use Rattle.classfile.specs.release.DebugTables.{are_same}
use Rattle.classfile.specs.private.MetRows.{is_met, AreMet}
use Rattle.classfile.specs.release.Twice.{has_twice}
use Rattle.classfile.proofs.MetLaws.{come_again}
use Rattle.classfile.proofs.release_form.repeated_rows.meet_all.Given as goal

abbrev pub invariant-loop-row : goal.invariant-loop-row
invariant-loop-row l = record {
  met : AreMet (take l.row-index l.rows) l.met;
  rests : has_twice are_same l.rows ≡ come_again are_same (is_met l.met) (drop l.row-index l.rows);
}
