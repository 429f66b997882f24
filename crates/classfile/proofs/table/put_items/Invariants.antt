use Rattle.std.proofs.Common.{◌≡◌, length, map}
use Rattle.std.specs.List.{flat_map}
use Rattle.layout.specs.Pieces.{writes}
use Rattle.classfile.proofs.table.put_items.Given as goal

abbrev pub invariant-loop-rest : goal.invariant-loop-rest
invariant-loop-rest g l = writes (flat_map (g.T.Item.pieces l.pool l.location) (map g.T.Item.view l.rest)) l.out ≡ writes (flat_map (g.T.Item.pieces l.pool l.location) (map g.T.Item.view l.fn.all)) l.fn.out

abbrev pub decreases-loop-rest : goal.decreases-loop-rest
decreases-loop-rest g l = length l.rest
