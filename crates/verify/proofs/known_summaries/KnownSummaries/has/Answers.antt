use Rattle.std.proofs.Common.{◌≡◌, ◌∙◌, Option, Some, None, option_map, is_some, ap, sym, refl}
use Rattle.hierarchy.specs.Class.{class_of}
use Rattle.hierarchy.specs.Summary.{facts_of}
use Rattle.verify.proofs.Standings.{known_name}
use Rattle.verify.proofs.known_summaries.KnownSummaries.has.Goals as goal

some_mapped : {A B : Type 0} (f : A → B) (o : Option A) → is_some (option_map f o) ≡ is_some o
some_mapped f None = refl
some_mapped f (Some a) = refl

pub returns : goal.returns
returns c =
    let g = c.self.inside.gathered in
    c.is_some.ensures ∙ sym (some_mapped _ c.get.result) ∙ ap is_some c.get.ensures.value ∙ known_name (facts_of g.classes.items) g.places c.self.invariant.0 c.args.name.now
    ∙ ap (λ k. is_some (class_of k c.args.name.now)) c.self.view_is
