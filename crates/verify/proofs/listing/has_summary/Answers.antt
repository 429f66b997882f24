use Rattle.std.proofs.Common.{◌≡◌, ◌↔◌, ◌∙◌, Some, ap, sym}
use Rattle.std.specs.Prelude.{IsTrue}
use Rattle.std.proofs.lemmas.Result.{IfOk-weaker}
use Rattle.hierarchy.specs.Class.{ClassFact, class_of}
use Rattle.hierarchy.specs.Rules.{IsHierarchy}
use Rattle.hierarchy.specs.Summary.{fact_of}
use Rattle.verify.proofs.listing.has_summary.Goals as goal

same : (a b : ClassFact) → Some a ≡ Some b → a ≡ b
same a b e = cc

pub returns-in-Some-clause-found : goal.returns-in-Some-clause-found
returns-in-Some-clause-found g c =
    let classes = g.C.Classes.content c.args.classes.now in
    let own = fact_of c.args.summary.now in
    let found = fact_of c.in-Some.found.now in
    let here : class_of classes own.name ≡ Some found = sym c.in-Some.ensures.found in
    IfOk-weaker c.same_summary.result (λ b. IsTrue b ↔ (found ≡ own)) (λ b. IsTrue b ↔ (class_of classes own.name ≡ Some own))
    (λ b told. (λ t. here ∙ ap (λ (z : ClassFact). Some z) (told.0 t), λ e. told.1 (same found own (sym here ∙ e)))) c.same_summary.ensures
