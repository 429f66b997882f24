use Rattle.std.proofs.Common.{◌∙◌, ap}
use Rattle.blocks.specs.Rows.{Rows}
use Rattle.blocks.proofs.Pendings.{none_pending, settled_rows}
use Rattle.blocks.proofs.arena.Arena.keep.Goals as goal

pub returns-clause-ok : goal.returns-clause-ok
returns-clause-ok c =
    let ps = c.settle.new.pending.pairs.items in
    let none = c.in_ok-settle.ensures.none in
    none_pending ps c.keep.new.self none
    ∙ c.keep.ensures
    ∙ ap (λ (x : Rows). let y : Rows = record x { kept = x.running } in y)
    (settled_rows ps c.settle.new.rows c.args.self.now none (c.settle.ensures.same ∙ c.self.view_is))
