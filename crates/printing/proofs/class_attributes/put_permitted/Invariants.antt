-- The lines of the rows that are gone were written.
use Rattle.std.proofs.Common.{drop}
use Rattle.std.specs.List.{flat_map}
use Rattle.classfile.specs.LayoutViews.{numbers_view}
use Rattle.classfile.specs.Numbers.{first_of, first_column, rows_of}
use Rattle.printing.specs.Classes.{permits_line}
use Rattle.printing.proofs.Writings.{SoFar}
use Rattle.printing.proofs.class_attributes.put_permitted.Given as goal

abbrev pub invariant-loop-row : goal.invariant-loop-row
invariant-loop-row g l =
    let line = permits_line l.pool in
    let n = numbers_view l.permitted in
    SoFar (g.W.Write.contents l.initial.out) (g.W.Write.contents l.out) (flat_map line (first_column n)) (flat_map line (flat_map first_of (drop l.row (rows_of n))))
