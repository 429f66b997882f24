-- Places of texts in a list, and what is kept for each.
use Rattle.std.proofs.Common.{◌≡◌, ◌⊎◌, inl, inr, ◌+◌, ◌<◌, ◌≤◌, ℕ, zero, suc, List, [], ◌∷◌, ◌++◌, get_or, length, map, slice_get, slice_set, Option, Some, None, refl, ap, sym, ◌∙◌, Bool, true, false, Result, Ok, Err, nat_eq, if◌then◌else◌, ◌-◌, subst, arith}
use Rattle.std.specs.Borrow.{Bor}
use Rattle.std.proofs.Math.ListN.{replicate}
use Rattle.std.proofs.lemmas.List.{get_or-replicate, length-append, length-map, length-replicate, length-set, map-append}
use Rattle.std.proofs.lemmas.Option.{slice_get_past, slice_get_read, slice_get_within, slice_get-get_or}
use Rattle.std.specs.Result.{result_unwrap_or}
use Rattle.pool.specs.declared.fault.PoolFault.TheVariants.{BadIndex}
use Rattle.pool.specs.Entries.{Entry}
use Rattle.pool.specs.Lookups.{and_then, entry_at, text_at, text_in, usable}
use Rattle.hierarchy.specs.declared.texts.Texts.{Texts}
use Rattle.hierarchy.specs.ClassSummary.{text_of}
use Rattle.hierarchy.specs.Summary.{text_among}
use Rattle.hierarchy.specs.private.TextNumbers.{OfEach}
use Rattle.hierarchy.specs.Texts.{AreTexts, HasPlace, kept_texts}
use Rattle.hierarchy.proofs.Names.{none_some, some_same}

-- ---- texts

pub among_of : (texts : List (Bor (List ℕ))) (p : ℕ) (t : List ℕ) → slice_get (map (λ (n : Bor (List ℕ)). n.now) texts) p ≡ Some t → text_among texts p ≡ t
among_of [] p t e = absurd (none_some e)
among_of (x ∷ xs) zero t e = some_same e
among_of (x ∷ xs) (suc p) t e = among_of xs p t e

pub among_past : (texts : List (Bor (List ℕ))) (p : ℕ) → length texts ≤ p → text_among texts p ≡ []
among_past [] p le = refl
among_past (x ∷ xs) zero le = absurd (omega arith)
among_past (x ∷ xs) (suc p) le = among_past xs p (omega arith)

pub among_within : (texts : List (Bor (List ℕ))) (p : ℕ) (d : Bor (List ℕ)) → p < length texts → text_among texts p ≡ (get_or texts p d).now
among_within [] p d lt = absurd (omega arith)
among_within (x ∷ xs) zero d lt = refl
among_within (x ∷ xs) (suc p) d lt = among_within xs p d (omega arith)

-- ---- what is kept

-- a thing at a place, after one more was put behind all
pub behind_cases : {A : Type 0} (xs : List A) (x : A) (k : ℕ) (y : A) → slice_get (xs ++ x ∷ []) k ≡ Some y → (slice_get xs k ≡ Some y) ⊎ ((k ≡ length xs) × (x ≡ y))
behind_cases [] x zero y e = inr (refl, some_same e)
behind_cases [] x (suc k) y e = absurd (none_some e)
behind_cases (z ∷ xs) x zero y e = inl e
behind_cases (z ∷ xs) x (suc k) y e = next (behind_cases xs x k y e)
  where
    next : (slice_get xs k ≡ Some y) ⊎ ((k ≡ length xs) × (x ≡ y)) → (slice_get (z ∷ xs) (suc k) ≡ Some y) ⊎ ((suc k ≡ length (z ∷ xs)) × (x ≡ y))
    next (inl h) = inl h
    next (inr h) = inr (ap suc h.0, h.1)

pub first_stays : {A : Type 0} (xs : List A) (x : A) (k : ℕ) (y : A) → slice_get xs k ≡ Some y → slice_get (xs ++ x ∷ []) k ≡ Some y
first_stays [] x k y e = absurd (none_some e)
first_stays (z ∷ xs) x zero y e = e
first_stays (z ∷ xs) x (suc k) y e = first_stays xs x k y e

pub last_is : {A : Type 0} (xs : List A) (x : A) → slice_get (xs ++ x ∷ []) (length xs) ≡ Some x
last_is [] x = refl
last_is (z ∷ xs) x = last_is xs x

-- the thing at the place of a text
pub thing_at : (R : List ℕ → Option ℕ → Type 0) (texts other own : List (Bor (List ℕ))) (things : List (Option ℕ)) (place at : ℕ) (thing : Option ℕ) → OfEach R texts things
    → length things ≡ length texts + 1 → texts ≡ own → other ≡ own → at ≤ length other → text_among other at ≡ text_among other place → thing ≡ get_or things at thing → R (text_among own place) thing
thing_at R texts other own things place at thing each long e f within same read =
    let many = ap length e in
    let as_many = ap length f in
    subst (λ t. R t thing) (ap (λ ts. text_among ts at) (e ∙ sym f) ∙ same ∙ ap (λ ts. text_among ts place) f)
    (each at thing (slice_get_read things (length things) at thing refl (omega (arith, within, long, many, as_many)) read))

-- one thing more
pub each_more : (R : List ℕ → Option ℕ → Type 0) (texts : List (Bor (List ℕ))) (things more : List (Option ℕ)) (thing : Option ℕ) → OfEach R texts things → R (text_among texts (length things)) thing
    → more ≡ things ++ thing ∷ [] → OfEach R texts more
each_more R texts things more thing each here pushed place x e = by (behind_cases things thing place x (ap (λ xs. slice_get xs place) (sym pushed) ∙ e))
  where
    by : (slice_get things place ≡ Some x) ⊎ ((place ≡ length things) × (thing ≡ x)) → R (text_among texts place) x
    by (inl h) = each place x h
    by (inr h) = subst (λ o. R (text_among texts place) o) h.1 (subst (λ k. R (text_among texts k) thing) (sym h.0) here)

-- ---- the texts of a pool

-- one text more
module _ (pool : List Entry) (old new : Texts) (is : AreTexts pool old) (index place : ℕ) (text : Bor (List ℕ)) (says : text.now ≡ text_of pool index)
    (counted : place ≡ length old.list.items) (pushed : new.list.items ≡ old.list.items ++ text ∷ []) (same : new.known.items ≡ old.known.items) where
  mapped : kept_texts new ≡ kept_texts old ++ text.now ∷ []
  mapped = ap (map (λ (n : Bor (List ℕ)). n.now)) pushed ∙ map-append (λ (n : Bor (List ℕ)). n.now) old.list.items (text ∷ [])

  here : slice_get (kept_texts new) place ≡ Some (text_of pool index)
  here =
      ap (λ xs. slice_get xs place) mapped ∙ ap (slice_get (kept_texts old ++ text.now ∷ [])) (counted ∙ sym (length-map old.list.items (λ (n : Bor (List ℕ)). n.now)))
      ∙ last_is (kept_texts old) text.now ∙ ap (λ z. Some z) says

  kept : (other : ℕ) (t : List ℕ) → slice_get (kept_texts old) other ≡ Some t → slice_get (kept_texts new) other ≡ Some t
  kept other t e = ap (λ xs. slice_get xs other) mapped ∙ first_stays (kept_texts old) text.now other t e

  pub has_place : HasPlace pool old new index place
  has_place = record {
    here = here;
    kept = kept;
    good = record { each = λ i p e. kept p (text_of pool i) (is.each i p (ap (λ xs. slice_get xs i) (sym same) ∙ e)) };
  }
