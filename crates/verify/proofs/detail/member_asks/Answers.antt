use Rattle.insn.specs.Views.{act_view}
use Rattle.numbered_rules.specs.RunningFrame.{held}
use Rattle.rules.specs.Bodies.{method_view}
use Rattle.rules.specs.Protected.{member_conditions}
use Rattle.verify.proofs.Detailed.{member_answer}
use Rattle.verify.proofs.detail.member_asks.Goals as goal

pub returns-clause-found : goal.returns-clause-found
returns-clause-found g c =
    let x = c.args.frames.now in
    member_answer c.asks_for_class.result (member_conditions x.types.classes (method_view c.args.body.now.method.now) (act_view c.args.act.now) (held x)) c.check_member.result
    c.check_member.ensures.judged c.asks_for_class.ensures
