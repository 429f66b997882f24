-- Places of the classes of a list, by their names.
use Rattle.std.proofs.Common.{◌≡◌, ◌∙◌, ℕ, ◌<◌, List, length, Option, Some, None, slice_get, get_or, refl, sym, ap}
use Rattle.std.specs.Str.{bytes_eq}
use Rattle.std.proofs.lemmas.Slice.Eq.{bytes_eq-Decides}
use Rattle.hierarchy.specs.Class.{ClassFact, class_of}
use Rattle.hierarchy.specs.Places.{place_in}
use Rattle.hierarchy.specs.Summary.{fact_of, facts_of}
use Rattle.hierarchy.specs.declared.summary.Summary.{Summary}
use Rattle.hierarchy.proofs.Names.{at_map, at_place, find_passes, position_within, slice_none}

-- the class at a place that was found has the name
pub named_there : (classes : List ClassFact) (a : List ℕ) (n : ℕ) (o : Option ClassFact) → slice_get classes n ≡ o → place_in classes a ≡ Some n → (c : ClassFact) × (slice_get classes n ≡ Some c) × (a ≡ c.name)
named_there classes a n None is e = absurd (slice_none classes n (position_within (λ (d : ClassFact). bytes_eq a d.name) classes n e) is)
named_there classes a n (Some c) is e =
    let p = λ (d : ClassFact). bytes_eq a d.name in
    (c, is, (bytes_eq-Decides a c.name).0 (find_passes p classes c (at_place p classes n e ∙ is)))

one_class : (classes : List ClassFact) (n : ℕ) (c d : ClassFact) → slice_get classes n ≡ Some c → slice_get classes n ≡ Some d → c ≡ d
one_class classes n c d e f = cc

pub places_are_names : (classes : List ClassFact) (a b : List ℕ) (n : ℕ) → place_in classes a ≡ Some n → place_in classes b ≡ Some n → a ≡ b
places_are_names classes a b n e f =
    let x = named_there classes a n (slice_get classes n) refl e in
    let y = named_there classes b n (slice_get classes n) refl f in
    x.2 ∙ (λ i. (one_class classes n x.0 y.0 x.1 y.1 i).name) ∙ sym y.2

-- the class of a name whose place was found, in a list of summaries
pub class_there : (xs : List Summary) (name : List ℕ) (place : ℕ) (d : Summary) → place < length xs → place_in (facts_of xs) name ≡ Some place → class_of (facts_of xs) name ≡ Some (fact_of (get_or xs place d))
class_there xs name place d lt e = at_place (λ (c : ClassFact). bytes_eq name c.name) (facts_of xs) place e ∙ at_map fact_of xs place d lt

-- its name
pub name_there : (xs : List Summary) (name : List ℕ) (place : ℕ) (d : Summary) → place < length xs → place_in (facts_of xs) name ≡ Some place → (get_or xs place d).name.now ≡ name
name_there xs name place d lt e =
    let x = named_there (facts_of xs) name place (slice_get (facts_of xs) place) refl e in
    ap (λ (c : ClassFact). c.name) (one_class (facts_of xs) place (fact_of (get_or xs place d)) x.0 (at_map fact_of xs place d lt) x.1) ∙ sym x.2
