use Rattle.std.proofs.Common.{rules, ◌≡◌, ◌∙◌, ◌++◌, ap, sym, subst}
use Rattle.std.specs.Prelude.{codes, decimal}
use Rattle.rules.specs.Reasons.{reason_number}
use Rattle.printing.specs.Faults.{at_text}
use Rattle.printing.specs.Writing.{Writes}
use Rattle.answers.specs.Verdicts.{reason_ending, verdict_text}
use Rattle.answers.proofs.verdicts.VerdictTextPrint.put.Goals as goal

pub returns-in-NoCode : goal.returns-in-NoCode
returns-in-NoCode g c = search rules

pub returns-in-Refused : goal.returns-in-Refused
returns-in-Refused g c =
    let held = g.W.Write.contents in
    let at = c.in-Refused.at in
    let reason = c.in-Refused.reason in
    let number : c.from.result ≡ reason_number reason = c.from.ensures ∙ c.number.ensures in
    let text : codes " refused " ++ (decimal c.from.result ++ (at_text at ++ reason_ending reason)) ≡ verdict_text c.args.self.now.0 =
    ap (λ n. codes " refused " ++ (decimal n ++ (at_text at ++ reason_ending reason))) number ∙ ap verdict_text (sym c.in-Refused.is) in
    subst (λ t. Writes (held c.args.out.now) (held c.put-in-Refused.new.out) t c.put-in-Refused.result) text c.put-in-Refused.ensures
