use Rattle.std.proofs.Common.{◌≤◌, ℕ, List, length}
use Rattle.type_numbers.specs.Numbers.{Numbering}
use Rattle.method_frames.specs.NumberedFrames.{NumberedFrame}
use Rattle.verify.specs.private.pass.Buckets.{AreRepresentatives, IsSorted}
use Rattle.verify.proofs.pass.representatives.Representatives.drop_ended.Given as goal

abbrev pub invariant-loop-i : goal.invariant-loop-i
invariant-loop-i l = record {
  sorted : (s : Numbering) (ds : List (ℕ × NumberedFrame)) → AreRepresentatives s ds l.fn.self → IsSorted s ds l.at l.fn.self l.self;
  more : length l.fn.self.buckets.items ≤ length l.self.buckets.items;
}
