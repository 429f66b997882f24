use Rattle.std.proofs.Common.{◌≡◌, ◌∙◌, inl, inr, ap, subst}
use Rattle.verify.specs.Together.{NotTogether}
use Rattle.answers.specs.Verdicts.{hierarchy_refusal}
use Rattle.answers.specs.Plays.{numbered_refusal, rule_refusal, method_refusal, PlaySays}
use Rattle.answers.proofs.Tellings.{answered_more}
use Rattle.answers.proofs.playing.refuse.Goals as goal

pub returns-in-Refused : goal.returns-in-Refused
returns-in-Refused g c = λ profile reads told.
    let held = g.W.Write.contents in
    let number = c.in-Refused.number in
    let fault = c.in-Refused.fault in
    let (i, counted, first) = subst (NotTogether profile reads) c.in-Refused.is told in
    answered_more (λ t s. (t ≡ numbered_refusal c.args.form number fault) × (s ≡ c.status.result)) (PlaySays c.args.form profile reads)
    (λ text status p. inl (i, fault, first, p.0 ∙ ap (λ n. numbered_refusal c.args.form n fault) counted, p.1 ∙ c.status.ensures))
    (held c.args.out.now) (held c.tell.new.out) c.tell.result c.tell.ensures

pub returns-in-NoHierarchy : goal.returns-in-NoHierarchy
returns-in-NoHierarchy g c = λ profile reads told.
    let held = g.W.Write.contents in
    let fault = c.in-NoHierarchy.fault in
    let (cs, all, (other, is)) = subst (NotTogether profile reads) c.in-NoHierarchy.is told in
    answered_more (λ t s. (t ≡ hierarchy_refusal c.args.form fault) × (s ≡ 1)) (PlaySays c.args.form profile reads)
    (λ text status p. inr (cs, all, inl (fault, other, is, p.0, p.1)))
    (held c.args.out.now) (held c.tell-in-NoHierarchy.new.out) c.tell-in-NoHierarchy.result c.tell-in-NoHierarchy.ensures

pub returns-in-Broken : goal.returns-in-Broken
returns-in-Broken g c = λ profile reads told.
    let held = g.W.Write.contents in
    let number = c.in-Broken.number in
    let rule = c.in-Broken.rule in
    let (cs, all, (hierarchy, (place, counted, ((class, here, breaks), before)))) = subst (NotTogether profile reads) c.in-Broken.is told in
    answered_more (λ t s. (t ≡ rule_refusal c.args.form number rule) × (s ≡ 1)) (PlaySays c.args.form profile reads)
    (λ text status p. inr (cs, all, inr (hierarchy, inl (place, ((class, here, inl (rule, breaks, p.0 ∙ ap (λ n. rule_refusal c.args.form n rule) counted, p.1)), before)))))
    (held c.args.out.now) (held c.tell-in-Broken.new.out) c.tell-in-Broken.result c.tell-in-Broken.ensures

pub returns-in-NotVerified : goal.returns-in-NotVerified
returns-in-NotVerified g c = λ profile reads told.
    let held = g.W.Write.contents in
    let number = c.in-NotVerified.number in
    let method = c.in-NotVerified.method in
    let (cs, all, (hierarchy, (place, counted, ((class, here, (n, refused)), before)))) = subst (NotTogether profile reads) c.in-NotVerified.is told in
    answered_more (λ t s. (t ≡ method_refusal c.args.form number method) × (s ≡ 1)) (PlaySays c.args.form profile reads)
    (λ text status p. inr (cs, all, inr (hierarchy, inl (place, ((class, here, inr (n, method, refused, p.0 ∙ ap (λ k. method_refusal c.args.form k method) counted, p.1)), before)))))
    (held c.args.out.now) (held c.tell-in-NotVerified.new.out) c.tell-in-NotVerified.result c.tell-in-NotVerified.ensures
