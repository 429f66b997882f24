use Rattle.std.proofs.Common.{◌∙◌, sym}
use Rattle.hierarchy.proofs.Sharing.{put_nothing}
use Rattle.hierarchy.proofs.versions.Versions.put.Goals as goal

pub returns-then-get-value-clause-puts : goal.returns-then-get-value-clause-puts
returns-then-get-value-clause-puts c = put_nothing c.args.self.now c.args.version c.args.index c.args.value c.requires.good c.requires.there (sym c.get.ensures ∙ c.if-get-value.true)

pub returns-clause-spared : goal.returns-clause-spared
returns-clause-spared c = λ e. absurd (c.if-get-value.false (c.get.ensures ∙ e))
