use Rattle.std.proofs.Common.{◌≡◌}
use Rattle.lower_calls.proofs.numbered_frames.fill.Given as goal

abbrev pub invariant-loop-local : goal.invariant-loop-local
invariant-loop-local g l = record {
  rest : l.frames ≡ record l.initial.frames { running = l.frames.running };
  stack : l.frames.running.stack ≡ l.initial.frames.running.stack;
}
