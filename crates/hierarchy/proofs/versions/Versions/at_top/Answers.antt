use Rattle.std.proofs.Common.{◌≡◌, ◌∙◌, sym}
use Rattle.std.proofs.lemmas.Result.{IfOk-weaker}
use Rattle.hierarchy.specs.private.Versions.{IsAdded, node_at}
use Rattle.hierarchy.proofs.Putting.{top_is}
use Rattle.hierarchy.proofs.Sharing.{IsPushed, added, is_read}
use Rattle.hierarchy.proofs.versions.Versions.at_top.Goals as goal

pub returns-then-is-node-3 : goal.returns-then-is-node-3
returns-then-is-node-3 c =
    let vs = c.args.self.now in
    let read = is_read vs c.args.version c.index-is.result.now c.requires.good c.requires.there c.index-is.ensures in
    let same : c.index-is.result.now ≡ c.args.node = λ i. record { value = c.if-is-node.true i; odd = c.if-is-node-2.true i; even = c.if-is-node-3.true i } in
    top_is vs c.args.version c.args.node c.requires.good c.requires.there (sym read ∙ same)

pub returns : goal.returns
returns c =
    IfOk-weaker c.push.result (IsPushed c.args.self.now c.push.new.self c.args.node) (IsAdded c.args.self.now c.push.new.self c.args.node)
    (λ made pushed. added c.args.self.now c.push.new.self c.args.node made c.requires.good c.requires.odd c.requires.even pushed.0 pushed.1) c.push.ensures
