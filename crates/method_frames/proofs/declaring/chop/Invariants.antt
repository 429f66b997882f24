use Rattle.std.proofs.Common.{◌≡◌, length, take}
use Rattle.method_frames.specs.MapFrames.{IsLaidOut}
use Rattle.method_frames.specs.private.MapEntries.{AreRewritten}
use Rattle.method_frames.proofs.declaring.chop.Given as goal

abbrev pub invariant-loop-locals : goal.invariant-loop-locals
invariant-loop-locals g l = record {
  rest : AreRewritten l.fn.frames l.frames;
  laid : IsLaidOut l.frames l.locals;
  left : take l.left l.locals ≡ take l.left l.fn.locals;
}

abbrev pub decreases-loop-locals : goal.decreases-loop-locals
decreases-loop-locals g l = length l.locals
