use Rattle.method_frames.specs.private.Stacks.{Changes, Holds}
use Rattle.method_frames.proofs.stack_rows.write.Given as goal

abbrev pub invariant-loop-place : goal.invariant-loop-place
invariant-loop-place g l = record { only : Changes l.from l.to l.fn.rows l.rows; held : Holds l.items l.from l.place l.rows }
