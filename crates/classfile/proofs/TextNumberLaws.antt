-- Numbers of texts: one more text gets a number, and an entry's number is kept.
use Rattle.std.proofs.Common.{◌≡◌, ℕ, ◌+◌, ◌-◌, ◌<◌, ◌≤◌, Bool, true, false, cond, List, length, Some, None, Ok, Option, Result, refl, sym, ap, ◌∙◌, arith}
use Rattle.std.specs.Prelude.{◌≢◌, nat_eq, slice_index_or, slice_set}
use Rattle.std.proofs.lemmas.Bool.{eqb-true, eqb-false}
use Rattle.std.proofs.lemmas.List.{get_or-set_same, get_or-set_other, length-set}
use Rattle.std.proofs.lemmas.Option.{slice_get_within}
use Rattle.std.specs.Str.{bytes_eq}
use Rattle.std.specs.Global.{Vec}
use Rattle.pool.specs.declared.fault.PoolFault.{PoolFault}
use Rattle.pool.specs.Entries.{Entry}
use Rattle.pool.specs.Lookups.{text_at}
use Rattle.pool.proofs.LookupLaws.{text_stands}
use Rattle.classfile.specs.declared.text_numbers.TextNumbers.{TextNumbers}
use Rattle.classfile.specs.TextNumbers.{number_of, AreNumbers, Numbers}
use lib.Pointwise.{bytes_decides}

same_some : (m n : ℕ) → (let o : Option ℕ = Some m in o) ≡ Some n → m ≡ n
same_some m n h = cc

none_some : (n : ℕ) → (let o : Option ℕ = None in o) ≡ Some n → ⊥
none_some n h = cc

same_text : (t u : List ℕ) → (let r : Result (List ℕ) PoolFault = Ok t in r) ≡ Ok u → t ≡ u
same_text t u e = cc

-- the place of a text's entry
pub record Place (pool : List Entry) (s : TextNumbers) (index : ℕ) : Type 0 where
  pub some : 1 ≤ index
  pub within : index - 1 < length pool
  pub known : index - 1 < length s.known.items

pub place_of : (pool : List Entry) (s : TextNumbers) (index : ℕ) (text : List ℕ) → AreNumbers pool s → text_at pool index ≡ Ok text → Place pool s index
place_of pool s index text numbers found =
    let stands = text_stands pool index text found in
    let within = slice_get_within pool stands.place _ stands.here in
    record {
      some = omega (arith, stands.counted);
      within = omega (arith, stands.counted, within);
      known = omega (arith, stands.counted, within, numbers.sized);
    }

-- after it is the index again
behind : (pool : List Entry) (index : ℕ) (text : List ℕ) → 1 ≤ index → text_at pool index ≡ Ok text → text_at pool ((index - 1) + 1) ≡ Ok text
behind pool index text some found = let e : (index - 1) + 1 ≡ index = omega (arith, some) in ap (text_at pool) e ∙ found

-- what is kept for an entry is the number of its text
pub kept_number : (pool : List Entry) (s : TextNumbers) (index n : ℕ) (text : List ℕ) → AreNumbers pool s → text_at pool index ≡ Ok text
    → n ≡ slice_index_or s.known.items (index - 1) n → n ≢ 0 → Numbers pool s s text n
kept_number pool s index n text numbers found here some =
    let place = place_of pool s index text numbers found in
    record {
      here = numbers.kept (index - 1) n text (λ z. some (here ∙ z)) place.within (behind pool index text place.some found) ∙ ap Some (sym here);
      others = λ x m h. h;
      good = numbers;
    }

-- a text that had no number gets one
pub new_number : (pool : List Entry) (old new : TextNumbers) (index : ℕ) (text : List ℕ) → AreNumbers pool old → text_at pool index ≡ Ok text → number_of old text ≡ None
    → new.known ≡ old.known → ((x : List ℕ) → number_of new x ≡ cond (bytes_eq text x) (Some index) (number_of old x)) → Numbers pool old new text index
new_number pool old new index text numbers found none known told =
    record {
      here = told text ∙ ap (λ (b : Bool). cond b (Some index) (number_of old text)) ((bytes_decides text text).1 refl);
      others = others;
      good = record {
        sized = ap (λ (v : Vec ℕ). length v.items) known ∙ numbers.sized;
        leads = leads;
        kept = λ place default x some within here.
            let same : slice_index_or new.known.items place default ≡ slice_index_or old.known.items place default = ap (λ (v : Vec ℕ). slice_index_or v.items place default) known in
            others x _ (numbers.kept place default x (λ z. some (same ∙ z)) within here ∙ ap Some (sym same));
      };
    }
  where
    by_test : (b : Bool) (x : List ℕ) (m : ℕ) → bytes_eq text x ≡ b → number_of old x ≡ Some m → cond b (Some index) (number_of old x) ≡ Some m
    by_test true x m e h = absurd (none_some m (sym none ∙ ap (number_of old) ((bytes_decides text x).0 e) ∙ h))
    by_test false x m e h = h

    others : (x : List ℕ) (m : ℕ) → number_of old x ≡ Some m → number_of new x ≡ Some m
    others x m h = told x ∙ by_test (bytes_eq text x) x m refl h

    led : (b : Bool) (x : List ℕ) (m : ℕ) → bytes_eq text x ≡ b → cond b (Some index) (number_of old x) ≡ Some m → text_at pool m ≡ Ok x
    led true x m e h = ap (text_at pool) (sym (same_some index m h)) ∙ found ∙ ap Ok ((bytes_decides text x).0 e)
    led false x m e h = numbers.leads x m h

    leads : (x : List ℕ) (m : ℕ) → number_of new x ≡ Some m → text_at pool m ≡ Ok x
    leads x m h = led (bytes_eq text x) x m refl (sym (told x) ∙ h)

-- a text that had a number has it again
pub old_number : (pool : List Entry) (old between new : TextNumbers) (index n : ℕ) (text : List ℕ) → AreNumbers pool old → number_of old text ≡ Some n
    → new.known ≡ old.known → ((x : List ℕ) → number_of between x ≡ cond (bytes_eq text x) (Some index) (number_of old x))
    → ((x : List ℕ) → number_of new x ≡ cond (bytes_eq text x) (Some n) (number_of between x)) → Numbers pool old new text n
old_number pool old between new index n text numbers here known first second =
    record {
      here = read text ∙ here;
      others = λ x m h. read x ∙ h;
      good = record {
        sized = ap (λ (v : Vec ℕ). length v.items) known ∙ numbers.sized;
        leads = λ x m h. numbers.leads x m (sym (read x) ∙ h);
        kept = λ place default x some within at.
            let same : slice_index_or new.known.items place default ≡ slice_index_or old.known.items place default = ap (λ (v : Vec ℕ). slice_index_or v.items place default) known in
            read x ∙ numbers.kept place default x (λ z. some (same ∙ z)) within at ∙ ap Some (sym same);
      };
    }
  where
    by_test : (b : Bool) (x : List ℕ) → bytes_eq text x ≡ b → cond b (Some n) (cond b (Some index) (number_of old x)) ≡ number_of old x
    by_test true x e = sym here ∙ ap (number_of old) ((bytes_decides text x).0 e)
    by_test false x e = refl

    read : (x : List ℕ) → number_of new x ≡ number_of old x
    read x = second x ∙ ap (cond (bytes_eq text x) (Some n)) (first x) ∙ by_test (bytes_eq text x) x refl

-- and it is kept for its entry
pub keep_number : (pool : List Entry) (old found new : TextNumbers) (index n : ℕ) (text : List ℕ) → Numbers pool old found text n → text_at pool index ≡ Ok text
    → new.numbers ≡ found.numbers → new.known.items ≡ slice_set found.known.items (index - 1) n → Numbers pool old new text n
keep_number pool old found new index n text numbers here same written =
    let read : (x : List ℕ) → number_of new x ≡ number_of found x = λ x. number_by x same in
    record {
      here = read text ∙ numbers.here;
      others = λ x m h. read x ∙ numbers.others x m h;
      good = record {
        sized = ap length written ∙ length-set found.known.items (index - 1) n ∙ numbers.good.sized;
        leads = λ x m h. numbers.good.leads x m (sym (read x) ∙ h);
        kept = λ place default x some within at. read x ∙ kept place default x some within at;
      };
    }
  where
    number_by : (x : List ℕ) → new.numbers ≡ found.numbers → number_of new x ≡ number_of found x
    number_by x e = ap (λ m. number_of (record { known = found.known; numbers = m }) x) e

    place : Place pool found index
    place = place_of pool found index text numbers.good here

    kept : (i default : ℕ) (x : List ℕ) → slice_index_or new.known.items i default ≢ 0 → i < length pool → text_at pool (i + 1) ≡ Ok x → number_of found x ≡ Some (slice_index_or new.known.items i default)
    kept i default x some within at = by_place (nat_eq i (index - 1)) refl
      where
        by_place : (b : Bool) → nat_eq i (index - 1) ≡ b → number_of found x ≡ Some (slice_index_or new.known.items i default)
        by_place true g =
            let e : i ≡ index - 1 = eqb-true _ _ g in
            let value : slice_index_or new.known.items i default ≡ n =
            ap (λ l. slice_index_or l i default) written ∙ ap (λ (k : ℕ). slice_index_or (slice_set found.known.items (index - 1) n) k default) e ∙ get_or-set_same found.known.items (index - 1) n default place.known in
            let back : i + 1 ≡ index = omega (arith, e, place.some) in
            let text_is : x ≡ text = same_text x text (sym at ∙ ap (text_at pool) back ∙ here) in
            ap (number_of found) text_is ∙ numbers.here ∙ ap Some (sym value)
        by_place false g =
            let apart : i ≢ index - 1 = eqb-false _ _ g in
            let value : slice_index_or new.known.items i default ≡ slice_index_or found.known.items i default =
            ap (λ l. slice_index_or l i default) written ∙ get_or-set_other found.known.items (index - 1) i n default apart in
            numbers.good.kept i default x (λ z. some (value ∙ z)) within at ∙ ap Some (sym value)
