use Rattle.std.proofs.Common.{◌≡◌, ◌-◌}
use Rattle.std.specs.Prelude.{map}
use Rattle.layout.specs.Format.{reads, times}
use Rattle.layout.specs.FormatLaws.{with_front}
use Rattle.classfile.proofs.table.items.Given as goal

abbrev pub invariant-loop : goal.invariant-loop
invariant-loop g l = with_front (map g.T.Item.view l.out.items) (reads (times (l.count - l.counter) (g.T.Item.format l.pool l.location)) l.cursor.at l.cursor.rest)
    ≡ reads (times l.count (g.T.Item.format l.pool l.location)) l.fn.cursor.at l.fn.cursor.rest
