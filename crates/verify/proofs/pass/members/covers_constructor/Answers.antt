use Rattle.std.proofs.Common.{◌≡◌, ◌∙◌, ◌&&◌, Bool, true, false, refl, sym, ap}
use Rattle.insn.specs.Views.{act_view}
use Rattle.rules.specs.Bodies.{method_view}
use Rattle.rules.specs.Rules.{constructs_own}
use Rattle.rules.specs.Table.{typing_rule}
use Rattle.numbered_rules.specs.RunningFrame.{held}
use Rattle.verify.specs.Verdict.{is_covered}
use Rattle.verify.proofs.numbered.Running.{if_ok}
use Rattle.verify.proofs.pass.members.covers_constructor.Goals as goal

not_both : (a : Bool) → false ≡ (a && false)
not_both true = refl
not_both false = refl

alone : (a b : Bool) → b ≡ true → a ≡ (a && b)
alone true b e = sym e
alone false b e = refl

pub returns-then-not-covers-clause-covered : goal.returns-then-not-covers-clause-covered
returns-then-not-covers-clause-covered g c = λ x es follows ahead.
    let own = constructs_own (typing_rule (method_view c.args.method.now) (act_view c.args.act.now)) (held c.args.frames.now) in
    let none : is_covered es c.args.at ≡ false = sym (c.covers.ensures x es follows ahead) ∙ c.if-not-covers.true in
    not_both own ∙ ap (λ b. own && b) (sym none)

pub returns-clause-covered : goal.returns-clause-covered
returns-clause-covered g c =
    if_ok _ _ c.constructs_own.result (λ b is x es follows ahead.
    let own = constructs_own (typing_rule (method_view c.args.method.now) (act_view c.args.act.now)) (held c.args.frames.now) in
    is ∙ alone own (is_covered es c.args.at) (sym (c.covers.ensures x es follows ahead) ∙ c.if-not-covers.false)) c.constructs_own.ensures.own
