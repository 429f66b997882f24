use Rattle.insn.specs.Views.{act_view}
use Rattle.numbered_rules.specs.RunningFrame.{held}
use Rattle.rules.specs.After.{after}
use Rattle.rules.specs.Bodies.{method_view}
use Rattle.rules.specs.Rules.{conditions}
use Rattle.rules.specs.Table.{typing_rule}
use Rattle.verify.proofs.Detailed.{has_run}
use Rattle.verify.proofs.detail.run_rule.Goals as goal

pub returns-clause-ran : goal.returns-clause-ran
returns-clause-ran g c =
    let m = method_view c.args.body.now.method.now in
    let at = c.args.refused.at in
    let p = typing_rule m (act_view c.args.refused.act) in
    let x = c.args.frames.now in
    has_run c.ran_by.result (conditions x.types.classes m at p (held x)) (after m at p (held x)) (held c.run.new.frames) c.run.result c.run.ensures.done c.ran_by.ensures
