-- Names in the hierarchy by their places, as they are kept.
use Rattle.std.proofs.Common.{◌≡◌, ◌∙◌, ℕ, Bool, true, false, cond, List, map, Option, Some, None, option_map, get_or, refl, ap, sym, subst}
use Rattle.std.specs.BTreeMap.{get, is_at}
use Rattle.std.specs.Borrow.{Bor}
use Rattle.std.specs.Map.{lookup}
use Rattle.std.specs.Ordering.{nat_cmp}
use Rattle.std.proofs.lemmas.Map.Lookups.{exact_unsigned}
use Rattle.std.proofs.lemmas.Map.Made.{lookup-map_values}
use Rattle.hierarchy.specs.Class.{ClassFact}
use Rattle.hierarchy.specs.Places.{place_in}
use Rattle.hierarchy.proofs.Names.{some_same}
use Rattle.hierarchy.proofs.Spots.{equal_is}
use Rattle.hierarchy.proofs.PlacesKept.{places_are_names}
use Rattle.type_numbers.specs.declared.recent_places.RecentPlaces.{RecentPlaces}
use Rattle.type_numbers.specs.private.RecentPlaces.{IsPlace, IsSlot, KeepPlaces, KeptNames, name_kept}

abbrev pub pairs_of : KeptNames → List (ℕ × List ℕ)
pairs_of m = map (λ (e : ℕ × Bor (List ℕ)). (e.0, e.1.now)) m.entries

pub pair_at : (m : KeptNames) (place : ℕ) → lookup (is_at (nat_cmp place)) (pairs_of m) ≡ name_kept m place
pair_at m place = lookup-map_values (λ (n : Bor (List ℕ)). n.now) (is_at (nat_cmp place)) m.entries

-- the name that was put there
pub kept_there : (m : KeptNames) (at place : ℕ) (key : Bor (List ℕ)) → at ≡ place → get nat_cmp m at ≡ Some key → lookup (is_at (nat_cmp place)) (pairs_of m) ≡ Some key.now
kept_there m at place key same e = pair_at m place ∙ ap (name_kept m) (sym same) ∙ ap (option_map (λ (n : Bor (List ℕ)). n.now)) e

module _ (classes : List ClassFact) (old new : KeptNames) (at : ℕ) (key : Bor (List ℕ)) (there : place_in classes key.now ≡ Some at)
    (grows : (q : ℕ) → get nat_cmp new q ≡ cond (is_at (nat_cmp at) q) (Some key) (get nat_cmp old q)) where
  by_test : (q : ℕ) (b : Bool) → is_at (nat_cmp at) q ≡ b → name_kept new q ≡ cond b (Some key.now) (name_kept old q)
  by_test q true e = ap (option_map (λ (n : Bor (List ℕ)). n.now)) (grows q ∙ ap (λ b. cond b (Some key) (get nat_cmp old q)) e)
  by_test q false e = ap (option_map (λ (n : Bor (List ℕ)). n.now)) (grows q ∙ ap (λ b. cond b (Some key) (get nat_cmp old q)) e)

  -- the names that were kept still are
  pub still_kept : ((q : ℕ) (n : List ℕ) → name_kept old q ≡ Some n → place_in classes n ≡ Some q) → (q : ℕ) (n : List ℕ) → name_kept old q ≡ Some n → name_kept new q ≡ Some n
  still_kept good q n e = by (is_at (nat_cmp at) q) refl
    where
      by : (b : Bool) → is_at (nat_cmp at) q ≡ b → name_kept new q ≡ Some n
      by false f = by_test q false f ∙ e
      by true f =
          let here : place_in classes key.now ≡ Some q = there ∙ ap (λ p. Some p) (exact_unsigned at q (equal_is (nat_cmp at q) f)) in
          by_test q true f ∙ ap (λ m. Some m) (places_are_names classes key.now n q here (good q n e))

  -- a name that was kept before has its place
  there_kept : ((q : ℕ) (n : List ℕ) → name_kept old q ≡ Some n → place_in classes n ≡ Some q) → (q : ℕ) (n : List ℕ) → name_kept new q ≡ Some n → place_in classes n ≡ Some q
  there_kept good q n e = by (is_at (nat_cmp at) q) refl
    where
      by : (b : Bool) → is_at (nat_cmp at) q ≡ b → place_in classes n ≡ Some q
      by false f = good q n (sym (by_test q false f) ∙ e)
      by true f =
          let here : place_in classes key.now ≡ Some q = there ∙ ap (λ p. Some p) (exact_unsigned at q (equal_is (nat_cmp at q) f)) in
          subst (λ m. place_in classes m ≡ Some q) (some_same (sym (by_test q true f) ∙ e)) here

  slot_kept : ((q : ℕ) (n : List ℕ) → name_kept old q ≡ Some n → place_in classes n ≡ Some q) → (slot : Option (Bor (List ℕ) × ℕ)) → IsSlot classes old slot → IsSlot classes new slot
  slot_kept good None h = tt
  slot_kept good (Some e) h = record { there = h.there; noted = still_kept good e.1 e.0.now h.noted }

  -- and so have the names that were asked for last
  pub places_kept : (asked : RecentPlaces) → KeepPlaces classes old asked → KeepPlaces classes new asked
  places_kept asked h = record {
    present = there_kept h.present;
    recent = λ k d lt. slot_kept h.present (get_or asked.slots k d) (h.recent k d lt);
  }

-- a name that is kept has its number
pub is_noted : (classes : List ClassFact) (m : KeptNames) (name : List ℕ) (at place : ℕ) → IsPlace classes m name at → place_in classes name ≡ Some place → lookup (is_at (nat_cmp place)) (pairs_of m) ≡ Some name
is_noted classes m name at place h e = pair_at m place ∙ ap (name_kept m) (some_same (sym e ∙ h.there)) ∙ h.noted
