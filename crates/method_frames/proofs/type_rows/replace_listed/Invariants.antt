use Rattle.std.proofs.Common.{ℕ}
use Rattle.method_frames.specs.private.Holders.{IsOpen, Replaces}
use Rattle.method_frames.proofs.type_rows.replace_listed.Given as goal

abbrev pub invariant-loop-key : goal.invariant-loop-key
invariant-loop-key l = record { only : Replaces l.object l.by l.fn.rows l.rows; all : (i : ℕ) → IsOpen l.object l.by l.fn.rows.running l.rows.running l.key-iterator i }
