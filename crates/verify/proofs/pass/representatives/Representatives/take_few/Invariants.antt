use Rattle.std.proofs.Common.{◌≡◌, ◌-◌, ◌≤◌, length}
use Rattle.verify.specs.private.pass.Buckets.{AreRepresentatives}
use Rattle.verify.proofs.numbered.Representing.{TakeChangesTo}
use Rattle.verify.proofs.pass.representatives.Representatives.take_few.Given as goal

abbrev pub invariant-loop-place : goal.invariant-loop-place
invariant-loop-place g l = record {
  within : l.from ≤ length l.frames.running.locals;
  are : AreRepresentatives l.frames.types l.frames.declared l.self;
  until : l.self.until ≡ l.fn.self.until;
  taken : TakeChangesTo l.frames l.fn.self.until.items l.from;
}

abbrev pub decreases-loop-place : goal.decreases-loop-place
decreases-loop-place g l = length l.frames.running.locals - l.from
