use Rattle.std.proofs.Common.{◌≡◌, ◌<◌, ◌∙◌, List, ℕ, length, Some, rules, sym, ap, subst}
use Rattle.hierarchy.specs.Class.{ClassFact}
use Rattle.hierarchy.specs.Places.{place_in}
use Rattle.hierarchy.proofs.PlacesKept.{name_there}
use Rattle.hierarchy.proofs.index.Index.name_at.Goals as goal

pub returns-then-place-self : goal.returns-then-place-self
returns-then-place-self g c = λ name e.
    let xs = c.self.inside.classes.now in
    let lt : c.args.place < length xs = search rules in
    let there = subst (λ (cs : List ClassFact). place_in cs name ≡ Some c.args.place) (sym c.self.view_is) e in
    ap (λ n. Some n) (name_there xs name c.args.place c.index-self-place.result lt there)
