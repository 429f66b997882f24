use Rattle.std.proofs.Common.{◌≡◌, ◌++◌, List, Option}
use Rattle.std.specs.Prelude.{All}
use Rattle.insn.specs.Branching.{targets_of}
use Rattle.frames.specs.declared.difference.Sought.{Sought}
use Rattle.method_frames.specs.MapFrames.{frames_by}
use Rattle.numbered_rules.specs.RunningFrame.{held}
use Rattle.verify.specs.DifferencesAt.{at_targets}
use Rattle.verify.specs.declared.difference_at.Way.{Way}
use Rattle.verify.specs.private.Ways.{IsWayIf}
use Rattle.verify.proofs.Ways.{alone}
use Rattle.verify.proofs.difference_at.target_ways.Given as goal

abbrev pub invariant-loop-target : goal.invariant-loop-target
invariant-loop-target g l =
    let x = l.frames in
    let first = λ (s : Sought). at_targets s x.types.classes (frames_by x.types x.declared) (held x) in
    record {
      ways : All (IsWayIf x) l.ways.items;
      same : (s : Sought) (more : List (Option Way)) → first s (targets_of l.target-iterator) ≡ alone s x more → first s (targets_of l.fn.targets) ≡ alone s x (l.ways.items ++ more);
    }
