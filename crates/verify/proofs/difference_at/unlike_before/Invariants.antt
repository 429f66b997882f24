use Rattle.std.proofs.Common.{◌≡◌, None, take}
use Rattle.std.specs.Prelude.{All, IfSome}
use Rattle.verify.specs.declared.difference_at.Way.{Way}
use Rattle.verify.specs.private.Ways.{IsAlikeBefore, way_difference}
use Rattle.verify.proofs.difference_at.unlike_before.Given as goal

abbrev pub invariant-loop-i : goal.invariant-loop-i
invariant-loop-i g l = record {
  same : l.frames ≡ l.fn.frames;
  alike : All (IsAlikeBefore l.sought l.fn.frames l.end) (take l.i l.ways);
  last : IfSome l.last (λ (w : Way). way_difference l.sought l.fn.frames w ≡ None);
}
