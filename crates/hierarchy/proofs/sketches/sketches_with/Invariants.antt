use Rattle.std.proofs.Common.{◌≡◌, ℕ, List, true, length, take}
use Rattle.hierarchy.specs.private.Sketches.{HaveSketches, has_sketch}
use Rattle.hierarchy.specs.Summary.{fact_of}
use Rattle.hierarchy.proofs.sketches.sketches_with.Given as goal

abbrev pub invariant-loop-i : goal.invariant-loop-i
invariant-loop-i l = record {
  long : length l.sketches ≡ 256;
  kept : (name : List ℕ) → has_sketch l.fn.above name ≡ true → has_sketch l.sketches name ≡ true;
  noted : HaveSketches l.which l.sketches (take l.i (fact_of l.class).members);
}
