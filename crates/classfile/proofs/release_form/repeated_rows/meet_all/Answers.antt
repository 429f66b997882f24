use Rattle.std.proofs.Common.{◌≡◌, ◌∙◌, ◌||◌, Bool, false, ap, sym}
use Rattle.classfile.specs.private.MetRows.{is_met}
use Rattle.classfile.specs.release.DebugTables.{are_same}
use Rattle.classfile.specs.release.Twice.{has_twice}
use Rattle.classfile.proofs.MetLaws.{none_met}
use Rattle.classfile.proofs.RowSets.{no_row, first_met, one_more_met, none_again}
use Rattle.classfile.proofs.release_form.repeated_rows.meet_all.Goals as goal

pub loop-row-init : goal.loop-row-init
loop-row-init c = record {
  met = c.requires;
  rests = ap (λ (b : Bool). b || has_twice are_same c.args.rows.now) (sym (none_met (is_met c.args.met.now) c.requires c.args.rows.now));
}

pub loop-row-preserved : goal.loop-row-preserved
loop-row-preserved c =
    let meets = first_met c.loop-row.met c.meet.new.self c.in_ok-meet.field-0 c.if-branch.false c.in_ok-meet.ensures in
    record {
      met = one_more_met c.args.rows.now c.loop-row.row-index no_row c.loop-row.met c.meet.new.self c.loop-row-test.true meets c.loop-row.invariant.met;
      rests = none_again c.args.rows.now c.loop-row.row-index no_row c.loop-row.met c.meet.new.self c.loop-row-test.true meets c.loop-row.invariant.rests;
    }
