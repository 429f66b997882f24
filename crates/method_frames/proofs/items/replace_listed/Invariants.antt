use Rattle.std.proofs.Common.{◌≡◌, ℕ, length}
use Rattle.method_frames.specs.private.Holders.{IsOpen}
use Rattle.method_frames.proofs.items.replace_listed.Given as goal

abbrev pub invariant-loop-key : goal.invariant-loop-key
invariant-loop-key l = record { size : length l.numbers.items ≡ length l.fn.numbers.items; all : (i : ℕ) → IsOpen l.object l.by l.fn.numbers.items l.numbers.items l.key-iterator i }
