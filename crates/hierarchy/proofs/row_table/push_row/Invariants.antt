use Rattle.std.proofs.Common.{map}
use Rattle.hierarchy.proofs.RowLists.{IsRowSoFar}
use Rattle.hierarchy.proofs.row_table.push_row.Given as goal

abbrev pub invariant-loop-k : goal.invariant-loop-k
invariant-loop-k l = IsRowSoFar (map (λ t. t.items) l.tables) l.place l.depth l.initial.entries.items l.entries.items l.k
