use Rattle.std.proofs.Common.{◌≡◌, ◌∙◌, ◌∷◌, codes, ap, sym, subst}
use Rattle.rules.specs.Reasons.{reason_number}
use Rattle.printing.specs.Json.{number, fields_then}
use Rattle.printing.specs.Writing.{Writes}
use Rattle.answers.specs.Texts.{answer}
use Rattle.answers.specs.Verdicts.{reason_fields, verdict_fields}
use Rattle.answers.proofs.verdicts.VerdictFieldsPrint.put.Goals as goal

pub returns-in-Refused : goal.returns-in-Refused
returns-in-Refused g c =
    let held = g.W.Write.contents in
    let at = c.in-Refused.at in
    let reason = c.in-Refused.reason in
    let told : c.from.result ≡ reason_number reason = c.from.ensures ∙ c.number.ensures in
    let rest = g.B.Print.text c.args.self.now.1 in
    let text : fields_then (answer (codes "refused") ∷ (codes "number", number c.from.result) ∷ (codes "at", number at) ∷ reason_fields reason) rest ≡ fields_then (verdict_fields c.args.self.now.0) rest =
    ap (λ n. fields_then (answer (codes "refused") ∷ (codes "number", number n) ∷ (codes "at", number at) ∷ reason_fields reason) rest) told ∙ ap (λ v. fields_then (verdict_fields v) rest) (sym c.in-Refused.is) in
    subst (λ t. Writes (held c.args.out.now) (held c.put-in-Refused.new.out) t c.put-in-Refused.result) text c.put-in-Refused.ensures
