use Rattle.std.proofs.Common.{◌∙◌, sym}
use Rattle.hierarchy.specs.Summary.{fact_of}
use Rattle.hierarchy.proofs.SameSummaries.{other_head, tells, told_all}
use Rattle.hierarchy.proofs.same_summaries.same_summary.Goals as goal

pub returns : goal.returns
returns c = told_all c.same_members.result (fact_of c.args.one.now) (fact_of c.args.other.now) (sym c.same_head.ensures ∙ c.if-not-same_head.false) c.same_members.ensures
