use Rattle.std.proofs.Common.{◌≡◌, ◌∙◌, not, Bool, true, false, List, refl, sym, subst}
use Rattle.hierarchy.specs.Class.{ClassFact}
use Rattle.insn.specs.Views.{act_view}
use Rattle.rules.specs.Bodies.{method_view}
use Rattle.verify.specs.private.pass.Objects.{AnswersUse}
use Rattle.verify.proofs.pass.members.uses_no_guarded.Goals as goal

not_true : (b : Bool) → not b ≡ true → b ≡ false
not_true false e = refl
not_true true e = sym e

pub returns-then-not-may_use_guarded-clause-unguarded : goal.returns-then-not-may_use_guarded-clause-unguarded
returns-then-not-may_use_guarded-clause-unguarded g c = λ t s same numbers. c.may_use_guarded.ensures s same numbers c.if-not-may_use_guarded.true

pub returns-in-Ok-clause-unguarded : goal.returns-in-Ok-clause-unguarded
returns-in-Ok-clause-unguarded g c = λ t s same numbers.
    let m = method_view c.args.body.now.method.now in
    let a = act_view c.args.act.now in
    let told = subst (AnswersUse c.args.constants.now.members.classes m a) (not_true c.in-Ok.guarded t) c.in-Ok.ensures.guarded in
    subst (λ (cs : List ClassFact). AnswersUse cs m a false) (sym same) told
