use Rattle.std.proofs.Common.{◌≡◌, ◌-◌, ◌≤◌, length, drop}
use Rattle.hierarchy.specs.Answer.{outcome_of}
use Rattle.frames.specs.FrameAssignable.{both}
use Rattle.frames.specs.PackedFrames.{place_answers, joined}
use Rattle.frames.proofs.packed_frame.packed_assignable.Given as goal

abbrev pub invariant-loop-at : goal.invariant-loop-at
invariant-loop-at g l =
    let answers = place_answers (g.C.Classes.content l.classes) l.from l.to in
    record { within : l.at ≤ length l.from.slots.items; rest : joined answers ≡ both (outcome_of l.so_far) (joined (drop l.at answers)) }

abbrev pub decreases-loop-at : goal.decreases-loop-at
decreases-loop-at g l = length l.from.slots.items - l.at

abbrev pub invariant-loop-at-2 : goal.invariant-loop-at-2
invariant-loop-at-2 g l =
    let answers = place_answers (g.C.Classes.content l.classes) l.from l.to in
    record { within : l.at ≤ length l.from.slots.items; rest : joined answers ≡ both (outcome_of l.so_far) (joined (drop l.at answers)) }

abbrev pub decreases-loop-at-2 : goal.decreases-loop-at-2
decreases-loop-at-2 g l = length l.from.slots.items - l.at
