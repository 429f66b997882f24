use Rattle.std.proofs.Common.{◌∙◌, ap}
use Rattle.std.proofs.lemmas.Result.{on_ok_weaker}
use Rattle.blocks.specs.private.Pending.{read_through}
use Rattle.blocks.proofs.Pendings.{set_through_all}
use Rattle.blocks.proofs.arena.Arena.set_through.Goals as goal

pub returns-clause-ok : goal.returns-clause-ok
returns-clause-ok c =
    let ps = c.settle_for.new.pending.pairs.items in
    on_ok_weaker c.set.result (λ is.
    ap (read_through ps) is
    ∙ set_through_all ps c.settle_for.new.rows c.args.self.now c.args.slot c.args.number c.in_ok-settle_for.ensures.shown (c.settle_for.ensures.same ∙ c.self.view_is)) c.set.ensures.ok
