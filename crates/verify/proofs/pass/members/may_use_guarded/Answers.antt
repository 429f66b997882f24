use Rattle.std.proofs.Common.{◌≡◌, ◌∙◌, sym, subst}
use Rattle.hierarchy.proofs.Names.{none_some, some_same}
use Rattle.insn.specs.Views.{act_view}
use Rattle.frames.specs.VerificationType.{class}
use Rattle.type_numbers.specs.Numbers.{IsNumber}
use Rattle.rules.specs.Bodies.{method_view}
use Rattle.verify.proofs.numbered.Above.{asked_numbered}
use Rattle.verify.proofs.pass.members.may_use_guarded.Goals as goal

pub returns-in-Some-member_class : goal.returns-in-Some-member_class
returns-in-Some-member_class g c = λ s same numbers e u used.
    let asked = asked_numbered s (method_view c.args.body.now.method.now) c.args.body.now.numbers numbers (act_view c.args.act.now) c.in-Some.index (sym c.used_index.ensures ∙ c.in-Some.is) u used in
    let number : asked.number ≡ c.in-Some-member_class.class = sym (some_same (sym c.in-Some-member_class.is ∙ c.member_class.ensures ∙ asked.is)) in
    c.may_be_above.ensures s u.reference (method_view c.args.body.now.method.now).class same (subst (λ n. IsNumber s n (class u.reference.class)) number asked.of) numbers.class e

pub returns-in-None : goal.returns-in-None
returns-in-None g c = λ s same numbers e u used.
    let asked = asked_numbered s (method_view c.args.body.now.method.now) c.args.body.now.numbers numbers (act_view c.args.act.now) c.in-Some.index (sym c.used_index.ensures ∙ c.in-Some.is) u used in
    absurd (none_some (sym c.in-None.is ∙ c.member_class.ensures ∙ asked.is))
