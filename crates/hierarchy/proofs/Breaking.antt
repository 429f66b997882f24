-- From one class of the list to the next.
use Rattle.std.proofs.lemmas.List.{length-map}
use Rattle.std.proofs.Common.{◌≡◌, ℕ, ◌+◌, ◌<◌, List, Some, length, get_or, slice_get, refl, sym, subst, below_more}
use Rattle.hierarchy.specs.declared.summary.Summary.{Summary}
use Rattle.hierarchy.specs.Class.{ClassFact}
use Rattle.hierarchy.specs.Summary.{fact_of, facts_of}
use Rattle.hierarchy.specs.Rules.{NoneBelow, NoClass, IsFirst}
use Rattle.hierarchy.proofs.Names.{at_map, same_some}

module _ (P : ClassFact → Type 0) (xs : List Summary) where
  pub none_more : (i : ℕ) (d : Summary) → i < length xs → NoneBelow P (facts_of xs) i → (P (fact_of (get_or xs i d)) → ⊥) → NoneBelow P (facts_of xs) (i + 1)
  none_more i d h below here =
      below_more (λ j. (c : ClassFact) → slice_get (facts_of xs) j ≡ Some c → P c → ⊥) i below
      (λ c e p. here (subst P (same_some e (at_map fact_of xs i d h)) p))

  pub first_here : (i : ℕ) (d : Summary) → i < length xs → NoneBelow P (facts_of xs) i → P (fact_of (get_or xs i d)) → IsFirst P (facts_of xs) (get_or xs i d).name.now
  first_here i d h below p = (i, fact_of (get_or xs i d), at_map fact_of xs i d h, refl, p, below)

  pub none_all : NoneBelow P (facts_of xs) (length xs) → NoClass P (facts_of xs)
  none_all below = subst (NoneBelow P (facts_of xs)) (sym (length-map xs fact_of)) below
