-- The items that are gone were written.
use Rattle.std.proofs.Common.{drop}
use Rattle.std.specs.List.{flat_map}
use Rattle.printing.proofs.Writings.{SoFar}
use Rattle.printing.proofs.print.put_lines.Given as goal

abbrev pub invariant-loop-item : goal.invariant-loop-item
invariant-loop-item g l =
    SoFar (g.W.Write.contents l.initial.out) (g.W.Write.contents l.out) (flat_map (g.L.Lines.line l.lines) l.items) (flat_map (g.L.Lines.line l.lines) (drop l.item-index l.items))
