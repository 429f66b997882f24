-- The table of the places of declared frames, by their offsets.
use Rattle.std.proofs.Common.{◌≡◌, ◌≢◌, ◌∙◌, ℕ, zero, suc, ◌+◌, ◌<◌, Bool, true, false, List, [], ◌∷◌, ◌++◌, Some, None, length, set, get_or, slice_get, nat_eq, ne_eqb, eq-eqb, refl, sym, ap, subst, inl, inr, arith}
use Rattle.std.specs.Prelude.{if◌then◌else◌, IsSomeAnd}
use Rattle.std.proofs.lemmas.Bool.{cases_eq}
use Rattle.std.proofs.lemmas.List.{get_or-set_same, get_or-set_other}
use Rattle.insn.specs.Offsets.{at_offset}
use Rattle.method_frames.specs.NumberedFrames.{NumberedFrame}
use Rattle.method_frames.specs.private.Frames.{IsPlaceTable}

some_none : {A P : Type 0} {a : A} → Some a ≡ None → P
some_none e = absurd (cc)

module _ {A : Type 0} where
  at_more : (xs ys : List (ℕ × A)) (at : ℕ) (a : A) → at_offset xs at ≡ Some a → at_offset (xs ++ ys) at ≡ Some a
  at_more [] ys at a e = some_none (sym e)
  at_more (x ∷ xs) ys at a e = go (nat_eq x.0 at) e (at_more xs ys at a)
    where
      go : (b : Bool) → (if b then Some x.1 else at_offset xs at) ≡ Some a → (at_offset xs at ≡ Some a → at_offset (xs ++ ys) at ≡ Some a) → (if b then Some x.1 else at_offset (xs ++ ys) at) ≡ Some a
      go true q on = q
      go false q on = on q

  at_last : (xs : List (ℕ × A)) (y : ℕ × A) (at : ℕ) → at_offset xs at ≡ None → at_offset (xs ++ y ∷ []) at ≡ (if nat_eq y.0 at then Some y.1 else None)
  at_last [] y at e = refl
  at_last (x ∷ xs) y at e = go (nat_eq x.0 at) e (at_last xs y at)
    where
      go : (b : Bool) → (if b then Some x.1 else at_offset xs at) ≡ None → (at_offset xs at ≡ None → at_offset (xs ++ y ∷ []) at ≡ (if nat_eq y.0 at then Some y.1 else None))
          → (if b then Some x.1 else at_offset (xs ++ y ∷ []) at) ≡ (if nat_eq y.0 at then Some y.1 else None)
      go true q on = some_none q
      go false q on = on q

  get_more : (xs ys : List A) (k : ℕ) (a : A) → slice_get xs k ≡ Some a → slice_get (xs ++ ys) k ≡ Some a
  get_more [] ys k a e = some_none (sym e)
  get_more (x ∷ xs) ys zero a e = e
  get_more (x ∷ xs) ys (suc k) a e = get_more xs ys k a e

  get_last : (xs : List A) (y : A) → slice_get (xs ++ y ∷ []) (length xs) ≡ Some y
  get_last [] y = refl
  get_last (x ∷ xs) y = get_last xs y

pub no_table : IsPlaceTable [] []
no_table = record { none = λ at e. refl; some = λ at frame e. absurd (omega (arith, e)) }

pub same_table : (places new : List ℕ) (fs : List (ℕ × NumberedFrame)) → ((at : ℕ) → get_or new at 0 ≡ get_or places at 0) → IsPlaceTable places fs → IsPlaceTable new fs
same_table places new fs same t = record { none = λ at e. t.none at (sym (same at) ∙ e); some = λ at frame e. t.some at frame (sym (same at) ∙ e) }

module _ (places : List ℕ) (fs : List (ℕ × NumberedFrame)) (at : ℕ) (f : NumberedFrame) (t : IsPlaceTable places fs) (other : at_offset fs at ≡ None) (room : at < length places) where
  abbrev news : List ℕ
  news = set places at (length fs + 1)

  abbrev all : List (ℕ × NumberedFrame)
  all = fs ++ (at, f) ∷ []

  here : get_or news at 0 ≡ length fs + 1
  here = get_or-set_same places at (length fs + 1) 0 room

  elsewhere : (o : ℕ) → o ≢ at → get_or news o 0 ≡ get_or places o 0
  elsewhere o ne = get_or-set_other places at o (length fs + 1) 0 ne

  apart : (o : ℕ) → o ≢ at → nat_eq at o ≡ false
  apart o ne = ne_eqb at o (λ q. ne (sym q))

  pub table_more : IsPlaceTable news all
  table_more = record {
    none = λ o e. elim (cases_eq o at) [
      | inl q ↦ let h : get_or news o 0 ≡ length fs + 1 = ap (λ j. get_or news j 0) q ∙ here in absurd (omega (arith, e, h))
      | inr ne ↦ at_last fs (at, f) o (t.none o (sym (elsewhere o ne) ∙ e)) ∙ ap (λ b. if b then Some f else None) (apart o ne)
    ];
    some = λ o frame e. elim (cases_eq o at) [
      | inl q ↦
          let h : get_or news o 0 ≡ length fs + 1 = ap (λ j. get_or news j 0) q ∙ here in
          let last : frame ≡ length fs = omega (arith, e, h) in
          let own : at_offset all at ≡ Some f = at_last fs (at, f) at other ∙ ap (λ b. if b then Some f else None) (eq-eqb at at refl) in
          (f, ap (slice_get all) last ∙ get_last fs (at, f) ∙ ap (λ j. Some (j, f)) (sym q), ap (at_offset all) q ∙ own)
      | inr ne ↦
          let old = t.some o frame (sym (elsewhere o ne) ∙ e) in
          (old.0, get_more fs ((at, f) ∷ []) frame (o, old.0) old.1, at_more fs ((at, f) ∷ []) o old.0 old.2)
    ];
  }

-- what is found
pub is_found : (places : List ℕ) (fs : List (ℕ × NumberedFrame)) (at frame : ℕ) → IsPlaceTable places fs → get_or places at 0 ≡ frame + 1
    → IsSomeAnd (slice_get fs frame) (λ x. (x.0 ≡ at) × (at_offset fs at ≡ Some x.1))
is_found places fs at frame t e =
    let found = t.some at frame e in
    subst (λ o. IsSomeAnd o (λ x. (x.0 ≡ at) × (at_offset fs at ≡ Some x.1))) (sym found.1) (refl, found.2)
