use Rattle.std.proofs.Common.{◌≡◌, rules, subst}
use Rattle.std.proofs.lemmas.Slice.Eq.{bytes_eq-Decides}
use Rattle.type_numbers.specs.private.RecentPlaces.{IsPlace, IsSlot}
use Rattle.type_numbers.proofs.RecentPlaces.{place_at}
use Rattle.type_numbers.proofs.recent_places.RecentPlaces.find.Goals as goal

pub returns-then-eq : goal.returns-then-eq
returns-then-eq c = λ classes kept are.
    let there = place_at classes kept c.args.self.now.slots c.slot_of.result are in
    let same : c.in_ok-kept.kept.now ≡ c.args.name.now = search (rules, bytes_eq-Decides) in
    subst (λ name. IsPlace classes kept name c.in_ok-kept.place) same (subst (IsSlot classes kept) c.in_ok-kept.was there)
