use Rattle.std.proofs.Common.{◌≡◌, ◌≤◌, ◌+◌, ◌-◌, ℕ, List, length}
use Rattle.type_numbers.specs.Numbers.{Numbering}
use Rattle.method_frames.specs.NumberedFrames.{NumberedFrame}
use Rattle.verify.specs.private.pass.Buckets.{AreBuckets, IsIn}
use Rattle.verify.proofs.pass.representatives.Representatives.grow.Given as goal

abbrev pub invariant-loop-self : goal.invariant-loop-self
invariant-loop-self l = record {
  buckets : (s : Numbering) (ds : List (ℕ × NumberedFrame)) (room : ℕ) → AreBuckets s ds room l.fn.self.buckets.items → AreBuckets s ds room l.self.buckets.items;
  kept : (i f : ℕ) → IsIn l.fn.self.buckets.items i f → IsIn l.self.buckets.items i f;
  until : l.self.until ≡ l.fn.self.until;
  moved : l.self.moved ≡ l.fn.self.moved;
  more : length l.fn.self.buckets.items ≤ length l.self.buckets.items;
}

abbrev pub decreases-loop-self : goal.decreases-loop-self
decreases-loop-self l = l.place + 1 - length l.self.buckets.items
