use Rattle.std.proofs.Common.{◌∙◌, map, ap}
use Rattle.std.proofs.lemmas.Result.{on_ok_weaker}
use Rattle.blocks.specs.Rows.{Rows, replaced}
use Rattle.blocks.proofs.Pendings.{none_pending, settled_rows, push_through}
use Rattle.blocks.proofs.arena.Arena.replace.Goals as goal

pub returns-then-self-clause-ok : goal.returns-then-self-clause-ok
returns-then-self-clause-ok c =
    let ps = c.settle.new.pending.pairs.items in
    let none = c.in_ok-settle.ensures.none in
    on_ok_weaker c.replace.result (λ is.
    none_pending ps c.replace.new.self none ∙ is
    ∙ ap (λ (x : Rows). let y : Rows = record x { running = map (replaced c.args.number c.args.by) x.running } in y)
    (settled_rows ps c.settle.new.rows c.args.self.now none (c.settle.ensures.same ∙ c.self.view_is))) c.replace.ensures.ok

pub returns-clause-ok : goal.returns-clause-ok
returns-clause-ok c =
    push_through c.settle_full.new.pending.pairs.items c.push.new.self.pairs.items c.args.number c.args.by c.settle_full.new.rows c.args.self.now
    c.in_ok-push.ensures.ok (c.settle_full.ensures.same ∙ c.self.view_is)
