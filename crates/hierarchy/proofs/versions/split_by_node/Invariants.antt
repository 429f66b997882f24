use Rattle.std.proofs.Common.{take}
use Rattle.hierarchy.specs.private.Versions.{IsSplit}
use Rattle.hierarchy.proofs.versions.split_by_node.Given as goal

abbrev pub invariant-loop-put : goal.invariant-loop-put
invariant-loop-put l = IsSplit l.value (take l.put-index l.puts) l.split
