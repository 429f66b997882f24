use Rattle.std.proofs.Common.{◌≡◌, ◌∙◌, ℕ, List, ◌∷◌, codes, ap, subst}
use Rattle.hierarchy.specs.Faults.{number_of}
use Rattle.printing.specs.Json.{number, object_then}
use Rattle.printing.specs.Writing.{Writes}
use Rattle.answers.specs.Texts.{kind, answer}
use Rattle.answers.specs.Verdicts.{name_fields}
use Rattle.answers.proofs.verdicts.HierarchyObjectPrint.put.Goals as goal

pub returns : goal.returns
returns g c =
    let held = g.W.Write.contents in
    let fault = c.args.self.now.0 in
    let rest = g.B.Print.text c.args.self.now.1 in
    let told : c.from.result ≡ number_of fault = c.from.ensures ∙ c.number.ensures in
    let object : ℕ → List ℕ = λ n. object_then (kind (codes "hierarchy")) (answer (codes "refused") ∷ (codes "number", number n) ∷ name_fields fault) rest in
    subst (λ t. Writes (held c.args.out.now) (held c.put.new.out) t c.put.result) (ap object told) c.put.ensures
