-- Readings of texts: none at first, and one that is noted.
use Rattle.std.proofs.Common.{◌≡◌, ◌∙◌, ℕ, ◌+◌, ◌-◌, ◌<◌, Bool, true, false, cond, nat_eq, eq-eqb, List, length, Option, Some, None, Ok, Err, slice_get, slice_set, get_or, refl, sym, ap, subst, arith}
use Rattle.std.specs.Option.{option_and_then}
use Rattle.std.proofs.lemmas.Bool.{eqb-true, true≢false}
use Rattle.std.proofs.lemmas.Grind.{get_or-set_at}
use Rattle.std.proofs.lemmas.List.{get_or-set_other}
use Rattle.std.proofs.lemmas.Option.{slice_get_within, slice_get_read, get_or_from_slice_get}
use Rattle.pool.specs.declared.fault.PoolFault.TheVariants.{BadIndex}
use Rattle.pool.specs.Lookups.{text_at, entry_at, and_then, usable, text_in}
use Rattle.pool.specs.ConstantMeanings.{found}
use Rattle.type_numbers.specs.declared.text_numbers.Form.{Form}
use Rattle.type_numbers.specs.declared.text_numbers.TextNumbers.{TextNumbers}
use Rattle.pool.specs.Entries.{Entry}
use Rattle.frames.specs.VerificationType.{VerificationType}
use Rattle.type_numbers.specs.declared.text_numbers.Reading.{Reading}
use Rattle.type_numbers.specs.declared.text_numbers.Reading.TheVariants.{Unread, Nothing, Named}
use Rattle.type_numbers.specs.Numbers.{Numbering, IsNumberOf, Extends}
use Rattle.type_numbers.specs.private.Readings.{IsReading, AreReadings, reading_in, text_type, type_in}
use Rattle.type_numbers.proofs.LawsOfNumbers.{number_stays}

-- what is at one index, and not at the others, once it is noted
pub reading_noted : (readings : List Reading) (i k : ℕ) (r : Reading) → i < length readings → (nat_eq k i ≡ true → reading_in (slice_set readings i r) k ≡ r) × (nat_eq k i ≡ false → reading_in (slice_set readings i r) k ≡ reading_in readings k)
reading_noted readings i k r h =
    (λ e. get_or-set_at readings i k r Unread (eqb-true k i e) h, λ e. get_or-set_other readings i k r Unread (λ f. true≢false (sym (eq-eqb k i f) ∙ e)))

module _ (s : Numbering) (pool : List Entry) (form : Form) (readings : List Reading) (i : ℕ) (r : Reading) (h : i < length readings) where
  -- one reading more
  pub note_one : ((k : ℕ) → IsReading s (type_in form pool k) (reading_in readings k)) → IsReading s (type_in form pool i) r → (k : ℕ) → IsReading s (type_in form pool k) (reading_in (slice_set readings i r) k)
  note_one all here k = by (nat_eq k i) refl
    where
      by : (b : Bool) → nat_eq k i ≡ b → IsReading s (type_in form pool k) (reading_in (slice_set readings i r) k)
      by true e = subst (IsReading s (type_in form pool k)) (sym ((reading_noted readings i k r h).0 e)) (subst (λ j. IsReading s (type_in form pool j) r) (sym (eqb-true k i e)) here)
      by false e = subst (IsReading s (type_in form pool k)) (sym ((reading_noted readings i k r h).1 e)) (all k)

-- the text at an index is one of the pool
pub text_within : (pool : List Entry) (index : ℕ) (text : List ℕ) → text_at pool index ≡ Ok text → index < length pool + 1
unfolding text_at entry_at
text_within pool index text e = by (nat_eq index 0) (slice_get pool (index - 1)) refl e
  where
    by : (b : Bool) (o : Option Entry) → slice_get pool (index - 1) ≡ o → and_then (cond b (Err (BadIndex index)) (usable index o)) (text_in index) ≡ Ok text → index < length pool + 1
    by true o is e = cc
    by false None is e = cc
    by false (Some x) is e = let h = slice_get_within pool (index - 1) x is in omega arith

-- a text that is there, by what it names
pub type_read : (form : Form) (pool : List Entry) (index : ℕ) (text : List ℕ) → text_at pool index ≡ Ok text → type_in form pool index ≡ text_type form text
type_read form pool index text e = ap (λ r. option_and_then (text_type form) (found r)) e

-- the number that was read
pub number_read : (s : Numbering) (t : Option VerificationType) (n : ℕ) → IsReading s t (Named n) → IsNumberOf s (Some n) t
number_read s None n h = h
number_read s (Some t) n h = h

pub nothing_read : (s : Numbering) (t : Option VerificationType) → IsReading s t Nothing → IsNumberOf s None t
nothing_read s None h = tt
nothing_read s (Some t) h = h

-- what was read stays so where more types have numbers
pub reading_stays : (old new : Numbering) → Extends old new → (t : Option VerificationType) (r : Reading) → IsReading old t r → IsReading new t r
reading_stays old new more t Unread h = tt
reading_stays old new more None Nothing h = tt
reading_stays old new more (Some t) Nothing h = h
reading_stays old new more None (Named n) h = h
reading_stays old new more (Some t) (Named n) h = number_stays old new more n t h

-- the reading at an index, as the program finds it
pub item_read : (readings : List Reading) (i j : ℕ) (r : Reading) → i < length readings → j ≡ i → r ≡ get_or readings j r → reading_in readings i ≡ r
item_read readings i j r h e is = get_or_from_slice_get readings i r Unread (slice_get_read readings (length readings) i r refl h (is ∙ ap (λ k. get_or readings k r) e))

pub readings_stay : (old new : Numbering) → Extends old new → (pool : List Entry) (t : TextNumbers) → AreReadings old pool t → AreReadings new pool t
readings_stay old new more pool t h = record {
  long = h.long;
  read = λ k. reading_stays old new more (type_in t.form pool k) (reading_in t.readings.items k) (h.read k);
}
