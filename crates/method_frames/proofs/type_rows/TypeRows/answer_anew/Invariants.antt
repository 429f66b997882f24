use Rattle.std.proofs.Common.{◌≡◌, ◌≢◌, ◌-◌, ◌≤◌, length, drop}
use Rattle.hierarchy.specs.Answer.{outcome_of, yes}
use Rattle.frames.specs.FrameAssignable.{both}
use Rattle.frames.specs.PackedFrames.{joined}
use Rattle.method_frames.specs.NumberedRows.{declared_in}
use Rattle.method_frames.specs.private.TypeRows.{row_answers, FitsUpTo, IsUnfit}
use Rattle.method_frames.proofs.type_rows.TypeRows.answer_anew.Given as goal

abbrev pub invariant-loop-place : goal.invariant-loop-place
invariant-loop-place g l =
    let answers = row_answers l.self.types l.self.running (declared_in l.self l.row) in
    record {
      within : l.from ≤ length l.self.running;
      rest : joined answers ≡ both (outcome_of l.so_far) (joined (drop l.from answers));
      unfit : outcome_of l.so_far ≢ yes → IsUnfit l.self.types l.self.running (declared_in l.self l.row) l.end;
      fit : outcome_of l.so_far ≡ yes → FitsUpTo l.self.types l.self.running (declared_in l.self l.row) l.from;
    }

abbrev pub decreases-loop-place : goal.decreases-loop-place
decreases-loop-place g l = length l.self.running - l.from
