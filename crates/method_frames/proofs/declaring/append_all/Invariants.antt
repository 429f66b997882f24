use Rattle.std.proofs.Common.{◌≡◌, ◌++◌, take}
use Rattle.method_frames.specs.MapFrames.{IsLaidOut}
use Rattle.method_frames.specs.private.MapEntries.{AreRewritten}
use Rattle.method_frames.proofs.declaring.append_all.Given as goal

abbrev pub invariant-loop-i : goal.invariant-loop-i
invariant-loop-i g l = record {
  rest : AreRewritten l.fn.frames l.frames;
  laid : IsLaidOut l.frames l.locals;
  locals : l.locals ≡ l.fn.locals ++ take l.i l.numbers;
}
