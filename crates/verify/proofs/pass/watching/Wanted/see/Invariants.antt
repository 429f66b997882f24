use Rattle.std.proofs.Common.{length, ◌-◌}
use Rattle.verify.specs.private.pass.Watching.{IsWanted}
use Rattle.verify.proofs.pass.watching.Wanted.see.Given as goal

abbrev pub invariant-loop-self : goal.invariant-loop-self
invariant-loop-self g l = IsWanted l.frames.types l.frames.declared l.list l.place l.self

abbrev pub decreases-loop-self : goal.decreases-loop-self
decreases-loop-self g l = length l.list - l.self.seen
