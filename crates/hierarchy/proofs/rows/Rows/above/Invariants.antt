use Rattle.hierarchy.proofs.RowsKept.{IsOnTheWay}
use Rattle.hierarchy.proofs.rows.Rows.above.Given as goal

abbrev pub invariant-loop-left : goal.invariant-loop-left
invariant-loop-left g l = IsOnTheWay l.self l.fn.place l.fn.steps l.at l.left l.k l.looks

abbrev pub decreases-loop-left : goal.decreases-loop-left
decreases-loop-left g l = l.left
