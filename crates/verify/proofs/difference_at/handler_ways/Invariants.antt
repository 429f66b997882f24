use Rattle.std.proofs.Common.{◌≡◌, ◌++◌, List, Option, drop}
use Rattle.std.specs.Prelude.{All}
use Rattle.classfile.specs.Methods.{ExceptionEntry}
use Rattle.frames.specs.declared.difference.Sought.{Sought}
use Rattle.method_frames.specs.MapFrames.{frames_by}
use Rattle.numbered_rules.specs.RunningFrame.{held}
use Rattle.verify.specs.DifferencesAt.{at_handlers}
use Rattle.verify.specs.declared.difference_at.Way.{Way}
use Rattle.verify.specs.private.Ways.{IsWayIf, first_of_ways}
use Rattle.verify.specs.private.pass.Exceptions.{AreEntriesBy}
use Rattle.verify.proofs.difference_at.handler_ways.Given as goal

abbrev pub invariant-loop-place : goal.invariant-loop-place
invariant-loop-place g l =
    let x = l.frames in
    let first = λ (s : Sought). at_handlers s x.types.classes (frames_by x.types x.declared) l.at (held x) in
    record {
      ways : All (IsWayIf x) l.ways.items;
      same :
          (s : Sought) (es : List ExceptionEntry) → AreEntriesBy x.types es l.entries → (more : List (Option Way))
          → first s l.place (drop l.place es) ≡ first_of_ways s x l.place more → first s 0 es ≡ first_of_ways s x 0 (l.ways.items ++ more);
    }
