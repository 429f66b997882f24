use Rattle.std.proofs.Common.{◌≡◌, take, reverse}
use Rattle.method_frames.specs.private.KnownRows.{AreGiven}
use Rattle.method_frames.proofs.stack_rows.read.Given as goal

abbrev pub invariant-loop-place : goal.invariant-loop-place
invariant-loop-place g l = record { given : AreGiven l.rows.types l.items; held : l.items ≡ reverse (take l.place l.rows.running) }
