use Rattle.std.proofs.Common.{◌≡◌, ◌++◌, drop}
use Rattle.verify.specs.private.Ways.{with_places}
use Rattle.verify.proofs.difference_at.by_frame.Given as goal

abbrev pub invariant-loop-place : goal.invariant-loop-place
invariant-loop-place l = with_places 0 l.ways ≡ l.sorted.items ++ with_places l.place (drop l.place l.ways)
