use Rattle.std.proofs.Common.{◌≡◌, ◌-◌, ◌≤◌, length}
use Rattle.std.specs.Prelude.{All}
use Rattle.std.specs.List.Sorted.{IsPermutation}
use Rattle.verify.specs.private.Ways.{IsAlikeBefore, with_places}
use Rattle.verify.proofs.Ways.{IsFoundAt}
use Rattle.verify.proofs.difference_at.first_unlike.Given as goal

abbrev pub invariant-loop-alike : goal.invariant-loop-alike
invariant-loop-alike g l =
    let x = l.fn.frames in
    let all = with_places 0 l.ways in
    record {
      same : l.frames ≡ x;
      moved : IsPermutation all l.sorted.items;
      most : l.end ≤ length l.ways;
      alike : All (IsAlikeBefore l.sought x l.alike) all;
      found : IsFoundAt l.sought x l.ways l.end l.first;
    }

abbrev pub decreases-loop-alike : goal.decreases-loop-alike
decreases-loop-alike g l = l.end - l.alike
