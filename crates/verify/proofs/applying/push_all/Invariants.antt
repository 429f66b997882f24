use Rattle.std.proofs.Common.{◌≡◌, ◌++◌, take, reverse}
use Rattle.verify.proofs.applying.push_all.Given as goal

abbrev pub invariant-loop-i : goal.invariant-loop-i
invariant-loop-i g l =
    let start = l.fn.frames in
    l.frames ≡ record start { running = record start.running { stack = reverse (take l.i l.numbers) ++ start.running.stack } }
