use Rattle.std.proofs.Common.{◌≡◌, ◌++◌, take, drop, length}
use Rattle.verify.proofs.applying.set_locals.Given as goal

abbrev pub invariant-loop-place : goal.invariant-loop-place
invariant-loop-place g l =
    let start = l.fn.frames in
    record {
      set : l.frames ≡ record start { running = record start.running { locals = take l.place l.numbers ++ drop l.place start.running.locals } };
      size : length l.frames.running.locals ≡ length l.numbers;
    }
