use Rattle.hierarchy.proofs.Table.{Filled}
use Rattle.hierarchy.proofs.index.Index.new.Given as goal

abbrev pub invariant-loop-i : goal.invariant-loop-i
invariant-loop-i g l = Filled l.classes l.names.keys l.i
