-- Lengths of names, as they are noted.
use Rattle.std.proofs.Common.{◌≡◌, ◌∙◌, ℕ, ◌<◌, ◌%◌, Bool, true, false, nat_eq, eq-eqb, List, length, get_or, slice_set, refl, sym, arith}
use Rattle.std.proofs.lemmas.Bool.{eqb-true, true≢false}
use Rattle.std.proofs.lemmas.Grind.{get_or-set_at}
use Rattle.std.proofs.lemmas.List.{get_or-set_other}
use Rattle.hierarchy.specs.private.Inheritance.{has_length}

module _ (lengths : List Bool) (long : length lengths ≡ 64) (name : List ℕ) where
  abbrev noted : List Bool
  noted = slice_set lengths (length name % 64) true

  inside : length name % 64 < length lengths
  inside = omega (arith, long)

  pub noted_here : has_length noted name ≡ true
  noted_here = get_or-set_at lengths (length name % 64) (length name % 64) true false refl inside

  -- no length is taken back
  pub noted_still : (other : List ℕ) → has_length lengths other ≡ true → has_length noted other ≡ true
  noted_still other h = by (nat_eq (length other % 64) (length name % 64)) refl
    where
      by : (b : Bool) → nat_eq (length other % 64) (length name % 64) ≡ b → has_length noted other ≡ true
      by true e = get_or-set_at lengths (length name % 64) (length other % 64) true false (eqb-true _ _ e) inside
      by false e = get_or-set_other lengths (length name % 64) (length other % 64) true false (λ f. true≢false (sym (eq-eqb _ _ f) ∙ e)) ∙ h
