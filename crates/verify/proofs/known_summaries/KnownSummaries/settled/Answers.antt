use Rattle.std.proofs.Common.{rules, tests, ◌≡◌, ◌∙◌, Bool, ap}
use Rattle.std.specs.List.{list_all}
use Rattle.std.proofs.lemmas.Iterator.{YieldsList-from_slice}
use Rattle.std.proofs.lemmas.Iterator.Search.{all_from_yields_List}
use Rattle.std.proofs.lemmas.List.Folds.{list_all-map}
use Rattle.hierarchy.specs.Summary.{facts_of}
use Rattle.verify.specs.Standing.{stands}
use Rattle.verify.proofs.known_summaries.KnownSummaries.settled.Goals as goal

pub invariant_of-result : goal.invariant_of-result
invariant_of-result c =
    let facts = facts_of c.self.inside.gathered.classes.items in
    let marks = c.deref.result.now in
    let holds : Bool → Bool = λ b. b in
    let all : c.all.result ≡ list_all holds marks =
    all_from_yields_List holds _ _ c.all.result c.all.ensures.ran (YieldsList-from_slice marks cc) (λ x b q k. search (rules, tests)) in
    (c.self.invariant.0, all ∙ ap (list_all holds) (c.deref.ensures.value ∙ c.in_ok-stand.ensures) ∙ list_all-map holds (stands facts) facts)
