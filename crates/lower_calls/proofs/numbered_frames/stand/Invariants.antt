use Rattle.std.proofs.Common.{◌≡◌, length}
use Rattle.lower_calls.proofs.numbered_frames.stand.Given as goal

abbrev pub invariant-loop-item : goal.invariant-loop-item
invariant-loop-item g l = record {
  rest : l.frames ≡ record l.initial.frames { running = l.frames.running };
  items : length l.frames.running.stack ≡ l.item;
}
