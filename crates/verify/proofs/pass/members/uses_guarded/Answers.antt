use Rattle.std.proofs.Common.{◌∙◌, sym}
use Rattle.insn.specs.Views.{act_view}
use Rattle.rules.specs.Bodies.{method_view}
use Rattle.verify.proofs.numbered.Objects.{answers_use, unused}
use Rattle.verify.proofs.numbered.Running.{if_ok}
use Rattle.verify.proofs.pass.members.uses_guarded.Goals as goal

pub returns-in-None-clause-guarded : goal.returns-in-None-clause-guarded
returns-in-None-clause-guarded g c =
    unused c.args.constants.now.members.classes (method_view c.args.method.now) (act_view c.args.act.now) _ (sym c.used_index.ensures ∙ c.in-None.is)

pub returns-in-Some-clause-guarded : goal.returns-in-Some-clause-guarded
returns-in-Some-clause-guarded g c =
    if_ok _ _ c.is_guarded.result (λ b found.
    answers_use c.args.constants.now.members c.args.method.now (act_view c.args.act.now) c.in-Some.index c.requires (sym c.used_index.ensures ∙ c.in-Some.is) b found) c.is_guarded.ensures.found
