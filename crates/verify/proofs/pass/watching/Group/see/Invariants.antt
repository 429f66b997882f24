use Rattle.std.proofs.Common.{length, ◌-◌, ◌/◌}
use Rattle.verify.specs.private.pass.Watching.{IsGroup}
use Rattle.verify.proofs.pass.watching.Group.see.Given as goal

abbrev pub invariant-loop-self : goal.invariant-loop-self
invariant-loop-self g l = IsGroup l.frames.types l.frames.declared l.list (l.place / 256) l.self

abbrev pub decreases-loop-self : goal.decreases-loop-self
decreases-loop-self g l = length l.list - l.self.seen
