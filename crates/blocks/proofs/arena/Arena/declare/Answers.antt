use Rattle.std.proofs.Common.{◌∙◌, ◌++◌, ◌∷◌, [], ap}
use Rattle.std.proofs.lemmas.Result.{on_ok_weaker}
use Rattle.blocks.specs.Rows.{Rows}
use Rattle.blocks.proofs.Pendings.{none_pending, settled_rows}
use Rattle.blocks.proofs.arena.Arena.declare.Goals as goal

pub returns-clause-ok : goal.returns-clause-ok
returns-clause-ok c =
    let ps = c.settle.new.pending.pairs.items in
    let none = c.in_ok-settle.ensures.none in
    on_ok_weaker c.declare.result (λ is.
    none_pending ps c.declare.new.self none ∙ is
    ∙ ap (λ (x : Rows). let y : Rows = record x { declared = x.declared ++ x.running ∷ [] } in y)
    (settled_rows ps c.settle.new.rows c.args.self.now none (c.settle.ensures.same ∙ c.self.view_is))) c.declare.ensures.ok
