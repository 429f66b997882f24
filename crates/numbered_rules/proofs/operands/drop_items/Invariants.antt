use Rattle.std.proofs.Common.{◌≡◌, drop}
use Rattle.numbered_rules.proofs.operands.drop_items.Given as goal

abbrev pub invariant-loop : goal.invariant-loop
invariant-loop g l = l.frames ≡ record l.fn.frames { running = record l.fn.frames.running { stack = drop l.counter l.fn.frames.running.stack } }
