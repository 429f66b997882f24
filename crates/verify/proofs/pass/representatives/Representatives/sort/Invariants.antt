use Rattle.std.proofs.Common.{◌≡◌, ◌≤◌, ℕ, List, length}
use Rattle.type_numbers.specs.Numbers.{Numbering}
use Rattle.method_frames.specs.NumberedFrames.{NumberedFrame}
use Rattle.verify.specs.private.pass.Buckets.{AreRepresentatives}
use Rattle.verify.proofs.numbered.Dropping.{Sorting}
use Rattle.verify.proofs.pass.representatives.Representatives.sort.Given as goal

abbrev pub invariant-loop-i : goal.invariant-loop-i
invariant-loop-i l = record {
  sorting : (s : Numbering) (ds : List (ℕ × NumberedFrame)) → AreRepresentatives s ds l.fn.self → Sorting s ds l.at l.fn.self l.i l.self;
  more : length l.fn.self.buckets.items ≤ length l.self.buckets.items;
  moved : l.self.moved ≡ l.initial.self.moved;
}
