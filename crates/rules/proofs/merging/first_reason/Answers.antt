use Rattle.std.proofs.Common.{rules, ◌<◌, ◌≤◌, subst}
use Rattle.rules.specs.Reasons.{reason_number}
use Rattle.rules.specs.Outcomes.{Judges}
use Rattle.rules.proofs.Lesser.{judges_alone, judges_less, judges_first}
use Rattle.rules.proofs.merging.first_reason.Goals as goal

pub returns-in-Ok : goal.returns-in-Ok
returns-in-Ok c = λ cs ds a b. judges_alone cs ds c.args.one c.in-Ok.field-0 a (subst (Judges ds) c.in-Ok.is b)

pub returns-then-number : goal.returns-then-number
returns-then-number c = λ cs ds a b.
    judges_less cs ds c.args.one c.in-Err.another (let h : reason_number c.in-Err.another < reason_number c.args.one = search rules in h) a
    (subst (Judges ds) c.in-Err.is b)

pub returns-else-number : goal.returns-else-number
returns-else-number c = λ cs ds a b.
    judges_first cs ds c.args.one c.in-Err.another (let h : reason_number c.args.one ≤ reason_number c.in-Err.another = search rules in h)
    a (subst (Judges ds) c.in-Err.is b)
