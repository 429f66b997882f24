-- The units that are gone were written.
use Rattle.std.proofs.Common.{length}
use Rattle.std.specs.List.{flat_map}
use Rattle.names.specs.Units.{units_of}
use Rattle.printing.proofs.Writings.{SoFar}
use Rattle.printing.proofs.runs.put_units.Given as goal

abbrev pub invariant-units : goal.invariant-units
invariant-units g l =
    let text = flat_map g.E.Escapes.text in
    SoFar (g.W.Write.contents l.initial.out) (g.W.Write.contents l.out) (text (units_of l.fn.bytes)) (text (units_of l.rest))

abbrev pub decreases-units : goal.decreases-units
decreases-units g l = length l.rest
