use Rattle.std.proofs.Common.{map}
use Rattle.hierarchy.specs.private.Skips.{HaveRows}
use Rattle.hierarchy.proofs.row_table.rows_of.Given as goal

abbrev pub invariant-loop-place : goal.invariant-loop-place
invariant-loop-place l = HaveRows (map (λ t. t.items) l.skips.tables.items) l.skips.tops.items l.place l.depths.items l.starts.items l.entries.items
