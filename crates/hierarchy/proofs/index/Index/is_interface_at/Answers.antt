use Rattle.std.proofs.Common.{◌≡◌, ◌<◌, List, length, slice_index_or, Some, rules, sym, ap, subst}
use Rattle.std.specs.Option.{option_map}
use Rattle.hierarchy.specs.Class.{ClassFact, interface_of}
use Rattle.hierarchy.specs.Places.{place_in}
use Rattle.hierarchy.proofs.PlacesKept.{class_there}
use Rattle.hierarchy.proofs.index.Index.is_interface_at.Goals as goal

pub returns-then-place-self : goal.returns-then-place-self
returns-then-place-self g c = λ name e.
    let xs = c.self.inside.classes.now in
    let lt : c.args.place < length xs = search rules in
    let there = subst (λ (cs : List ClassFact). place_in cs name ≡ Some c.args.place) (sym c.self.view_is) e in
    let found = ap (option_map (λ (x : ClassFact). x.interface)) (class_there xs name c.args.place c.index-self-place.result lt there) in
    subst (λ (cs : List ClassFact). interface_of cs name ≡ Some (slice_index_or xs c.args.place c.index-self-place.result).interface) c.self.view_is found
