-- So many brackets were written.
use Rattle.std.proofs.Common.{◌-◌}
use Rattle.std.specs.Prelude.{replicate}
use Rattle.names.specs.Names.{bracket}
use Rattle.printing.proofs.Writings.{SoFar}
use Rattle.printing.proofs.frame.BracketsPrint.put.Given as goal

abbrev pub invariant-loop : goal.invariant-loop
invariant-loop g l =
    SoFar (g.W.Write.contents l.initial.out) (g.W.Write.contents l.out) (replicate l.self.0 bracket) (replicate (l.self.0 - l.counter) bracket)
