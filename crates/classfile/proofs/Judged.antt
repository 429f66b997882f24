-- Texts of a pool whose forms are kept for their entries.
use Rattle.std.proofs.Common.{◌≡◌, ℕ, ◌+◌, ◌-◌, ◌<◌, ◌≤◌, Bool, true, false, List, Some, Ok, Option, None, IfSome, Result, length, refl, sym, ap, ◌∙◌, arith}
use Rattle.std.specs.Prelude.{◌≢◌, nat_eq, slice_index_or, slice_set}
use Rattle.std.proofs.lemmas.Bool.{eqb-true, eqb-false}
use Rattle.std.proofs.lemmas.List.{get_or-set_same, get_or-set_other, length-set}
use Rattle.std.proofs.lemmas.Option.{slice_get_within}
use Rattle.pool.specs.declared.fault.PoolFault.{PoolFault}
use Rattle.pool.specs.Entries.{Entry}
use Rattle.pool.specs.Lookups.{text_at}
use Rattle.pool.proofs.LookupLaws.{text_stands}
use Rattle.classfile.specs.private.TextForms.{AreKept}

-- the place of a text's entry
pub record Place {F : Type 0} (pool : List Entry) (forms : List (Option F)) (index : ℕ) (text : List ℕ) : Type 0 where
  pub some : 1 ≤ index
  pub within : index - 1 < length pool
  pub kept : index - 1 < length forms
  pub here : text_at pool ((index - 1) + 1) ≡ Ok text

pub place_of : {F : Type 0} (of : List ℕ → F) (pool : List Entry) (kept : List (Option F)) (index : ℕ) (text : List ℕ) → AreKept of pool kept → text_at pool index ≡ Ok text → Place pool kept index text
place_of of pool kept index text are found =
    let stands = text_stands pool index text found in
    let within = slice_get_within pool stands.place _ stands.here in
    let back : (index - 1) + 1 ≡ index = omega (arith, stands.counted) in
    record {
      some = omega (arith, stands.counted);
      within = omega (arith, stands.counted, within);
      kept = omega (arith, stands.counted, within, are.sized);
      here = ap (text_at pool) back ∙ found;
    }

-- what is kept of a text that was judged
pub kept_form : {F : Type 0} (of : List ℕ → F) (pool : List Entry) (kept : List (Option F)) (index : ℕ) (text : List ℕ) (found : Option F) (form : F) → AreKept of pool kept → text_at pool index ≡ Ok text
    → found ≡ slice_index_or kept (index - 1) found → found ≡ Some form → form ≡ of text
kept_form of pool kept index text found form are here read is =
    let place = place_of of pool kept index text are here in
    are.right (index - 1) found form text (sym read ∙ is) place.within place.here

pub kept_forms : {F : Type 0} (of : List ℕ → F) (pool : List Entry) (kept : List (Option F)) (index : ℕ) (text : List ℕ) (found : Option F) → AreKept of pool kept → text_at pool index ≡ Ok text
    → found ≡ slice_index_or kept (index - 1) found → IfSome found (λ f. f ≡ of text)
kept_forms of pool kept index text None are here read = tt
kept_forms of pool kept index text (Some form) are here read = kept_form of pool kept index text (Some form) form are here read refl

same_text : (t u : List ℕ) → (let r : Result (List ℕ) PoolFault = Ok t in r) ≡ Ok u → t ≡ u
same_text t u e = cc

same_form : {F : Type 0} (a b : F) → (let o : Option F = Some a in o) ≡ Some b → a ≡ b
same_form a b e = cc

-- one more is kept
pub keep_form : {F : Type 0} (of : List ℕ → F) (pool : List Entry) (old new : List (Option F)) (index : ℕ) (text : List ℕ) → AreKept of pool old → text_at pool index ≡ Ok text
    → new ≡ slice_set old (index - 1) (Some (of text)) → AreKept of pool new
keep_form {F} of pool old new index text are here written =
    record { sized = ap length written ∙ length-set old (index - 1) (Some (of text)) ∙ are.sized; right = right }
  where
    place : Place pool old index text
    place = place_of of pool old index text are here

    right : (i : ℕ) (default : Option F) (form : F) (x : List ℕ) → slice_index_or new i default ≡ Some form → i < length pool → text_at pool (i + 1) ≡ Ok x → form ≡ of x
    right i default form x is within at = by_place (nat_eq i (index - 1)) refl
      where
        by_place : (b : Bool) → nat_eq i (index - 1) ≡ b → form ≡ of x
        by_place true g =
            let e : i ≡ index - 1 = eqb-true _ _ g in
            let value : slice_index_or new i default ≡ Some (of text) =
            ap (λ (l : List (Option F)). slice_index_or l i default) written
            ∙ ap (λ (k : ℕ). slice_index_or (slice_set old (index - 1) (Some (of text))) k default) e
            ∙ get_or-set_same old (index - 1) (Some (of text)) default place.kept in
            let back : i + 1 ≡ index = omega (arith, e, place.some) in
            let text_is : x ≡ text = same_text x text (sym at ∙ ap (text_at pool) back ∙ here) in
            same_form form (of text) (sym is ∙ value) ∙ ap of (sym text_is)
        by_place false g =
            let apart : i ≢ index - 1 = eqb-false _ _ g in
            let value : slice_index_or new i default ≡ slice_index_or old i default =
            ap (λ (l : List (Option F)). slice_index_or l i default) written ∙ get_or-set_other old (index - 1) i (Some (of text)) default apart in
            are.right i default form x (sym value ∙ is) within at
