use Rattle.std.proofs.Common.{◌∙◌, ap}
use Rattle.blocks.specs.private.Pending.{read_through}
use Rattle.blocks.proofs.Pendings.{some_through, done_through}
use Rattle.blocks.proofs.arena.do_first.Goals as goal

pub returns-in_err-replace_all-clause-same : goal.returns-in_err-replace_all-clause-same
returns-in_err-replace_all-clause-same c =
    some_through c.args.pending.now.pairs.items c.first.result c.args.rows.now c.replace_all.new.rows c.requires c.first.ensures c.replace_all.ensures.rest c.replace_all.ensures.each

pub returns-clause-same : goal.returns-clause-same
returns-clause-same c =
    ap (λ ps. read_through ps c.replace_all.new.rows) c.drop_first.ensures
    ∙ done_through c.args.pending.now.pairs.items c.first.result c.args.rows.now c.replace_all.new.rows c.requires c.first.ensures c.replace_all.ensures.rest c.in_ok-replace_all.ensures.ok
