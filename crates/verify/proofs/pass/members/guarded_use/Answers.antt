use Rattle.std.proofs.Common.{subst}
use Rattle.insn.specs.Views.{act_view}
use Rattle.rules.specs.Bodies.{method_view}
use Rattle.verify.specs.private.pass.Objects.{AnswersUse}
use Rattle.verify.proofs.numbered.Objects.{guarded_by}
use Rattle.verify.proofs.pass.members.guarded_use.Goals as goal

pub returns-then-not-branch-clause-used : goal.returns-then-not-branch-clause-used
returns-then-not-branch-clause-used g c =
    subst (AnswersUse c.args.constants.now.members.classes (method_view c.args.method.now) (act_view c.args.act.now)) c.if-not-branch.true c.in_ok-uses_guarded.ensures.guarded

pub returns-clause-used : goal.returns-clause-used
returns-clause-used g c =
    guarded_by c.args.constants.now.members.classes (method_view c.args.method.now) (act_view c.args.act.now)
    (subst (AnswersUse c.args.constants.now.members.classes (method_view c.args.method.now) (act_view c.args.act.now)) c.if-not-branch.false c.in_ok-uses_guarded.ensures.guarded)
    c.used_by.result c.used_by.ensures
