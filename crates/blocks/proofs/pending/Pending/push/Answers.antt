use Rattle.std.proofs.Common.{sym, subst}
use Rattle.blocks.specs.private.Pending.{IsPushed}
use Rattle.blocks.proofs.Pendings.{pushed_there}
use Rattle.blocks.proofs.pending.Pending.push.Goals as goal

pub returns-clause-ok : goal.returns-clause-ok
returns-clause-ok c =
    let ps = c.args.self.now.pairs.items in
    subst (IsPushed ps c.args.number c.args.by) (sym c.in_ok-insert.ensures.items)
    (pushed_there ps (record { number = c.args.number; by = c.args.by }) c.place_of-place.result c.place_of-place.ensures.earlier)
