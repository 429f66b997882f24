use Rattle.std.proofs.lemmas.Result.{IfOk-weaker}
use Rattle.blocks.proofs.Putting.{own_copied}
use Rattle.blocks.proofs.tree.owned.Goals as goal

pub returns-else-id-own-clause-ok : goal.returns-else-id-own-clause-ok
returns-else-id-own-clause-ok c =
    IfOk-weaker c.copy.result _ _ (λ copy is. own_copied c.args.nodes.now.items c.copy.new.nodes.items c.args.own c.args.id copy c.requires.tree c.if-id-own.false is) c.copy.ensures.ok
