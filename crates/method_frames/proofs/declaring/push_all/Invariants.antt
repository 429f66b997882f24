use Rattle.std.proofs.Common.{◌≡◌, ◌++◌, take, reverse}
use Rattle.method_frames.specs.private.MapEntries.{IsRestacked}
use Rattle.method_frames.proofs.declaring.push_all.Given as goal

abbrev pub invariant-loop-i : goal.invariant-loop-i
invariant-loop-i g l = record {
  rest : IsRestacked l.fn.frames l.frames;
  stack : l.frames.running.stack ≡ reverse (take l.i l.numbers) ++ l.fn.frames.running.stack;
}
