-- Readings of descriptors of methods, and the row of their arguments.
use Rattle.std.proofs.Common.{◌≡◌, ◌∙◌, ℕ, zero, suc, ◌+◌, ◌-◌, ◌<◌, ◌≤◌, Bool, true, false, nat_eq, eq-eqb, List, [], ◌∷◌, ◌++◌, map, take, drop, length, Option, Some, None, Ok, option_map, slice_set, slice_index_or, get_or, refl, sym, ap, ap₂, subst, arith, length-append, append_assoc}
use Rattle.std.specs.Option.{option_and_then}
use Rattle.std.proofs.lemmas.Bool.{eqb-true, true≢false}
use Rattle.std.proofs.lemmas.Grind.{get_or-set_at}
use Rattle.std.proofs.lemmas.List.{get_or-set_other, take-append-le}
use Rattle.std.proofs.lemmas.Option.{get_or_from_slice_get, slice_get_read}
use Rattle.names.specs.Descriptors.{MethodDescriptor, method_width}
use Rattle.names.specs.Reading.{method_answer}
use Rattle.pool.specs.Entries.{Entry}
use Rattle.pool.specs.Lookups.{text_at}
use Rattle.pool.specs.ConstantMeanings.{found}
use Rattle.frames.specs.VerificationType.{VerificationType}
use Rattle.frames.specs.Slots.{descriptor_type}
use Rattle.type_numbers.specs.declared.method_numbers.DescriptorNumbers.{DescriptorNumbers}
use Rattle.type_numbers.specs.declared.method_numbers.MethodNumbers.{MethodNumbers}
use Rattle.type_numbers.specs.declared.method_numbers.MethodReading.{MethodReading}
use Rattle.type_numbers.specs.declared.method_numbers.MethodReading.TheVariants.{Unread, Nothing, Types}
use Rattle.type_numbers.specs.Numbers.{Numbering, IsNumber, IsNumberOf, Extends}
use Rattle.type_numbers.specs.private.Readings.{ArePushed}
use Rattle.type_numbers.specs.MethodNumbers.{AreDescriptors, AreNumbers, AreTypes, AreTypesOf, GoesOn, IsMethodReading, arguments_in, method_in, row_of}
use Rattle.type_numbers.proofs.FieldEntries.{number_of_stays}
use Rattle.type_numbers.proofs.LawsOfNumbers.{number_stays}

-- ---- a list that is written at one index

pub all_noted : {A : Type 0} (P : ℕ → A → Type 0) (xs : List A) (d : A) (i : ℕ) (r : A) → i < length xs → ((k : ℕ) → P k (get_or xs k d)) → P i r → (k : ℕ) → P k (get_or (slice_set xs i r) k d)
all_noted {A} P xs d i r h all here k = by (nat_eq k i) refl
  where
    by : (b : Bool) → nat_eq k i ≡ b → P k (get_or (slice_set xs i r) k d)
    by true e = let same = eqb-true k i e in subst (P k) (sym (get_or-set_at xs i k r d same h)) (subst (λ j. P j r) (sym same) here)
    by false e = subst (P k) (sym (get_or-set_other xs i k r d (λ f. true≢false (sym (eq-eqb k i f) ∙ e)))) (all k)

-- ---- rows that go on

pub goes_nowhere : (row : List ℕ) → GoesOn row row
goes_nowhere row = ([], sym (append-nil row))
  where
    append-nil : (xs : List ℕ) → xs ++ [] ≡ xs
    append-nil [] = refl
    append-nil (x ∷ xs) = ap (λ ys. x ∷ ys) (append-nil xs)

drop_on : (n : ℕ) (row more : List ℕ) → n ≤ length row → drop n (row ++ more) ≡ drop n row ++ more
drop_on zero row more h = refl
drop_on (suc n) [] more h = absurd (omega (arith, h))
drop_on (suc n) (x ∷ row) more h = drop_on n row more (omega (arith, h))

drop_length : (n : ℕ) (row : List ℕ) → length (drop n row) ≡ length row - n
drop_length zero row = omega arith
drop_length (suc n) [] = omega arith
drop_length (suc n) (x ∷ row) = let e = drop_length n row in omega arith

arguments_stay : (x : MethodNumbers) (row more : List ℕ) → x.start + x.count ≤ length row → arguments_in (row ++ more) x ≡ arguments_in row x
arguments_stay x row more h =
    let l = drop_length x.start row in
    let fits : x.count ≤ length (drop x.start row) = omega (arith, h) in
    ap (take x.count) (drop_on x.start row more (omega (arith, h))) ∙ take-append-le x.count (drop x.start row) more fits

pub numbers_on : (old new : Numbering) → Extends old new → (ns : List ℕ) (ts : List VerificationType) → AreNumbers old ns ts → AreNumbers new ns ts
numbers_on old new more [] [] h = tt
numbers_on old new more (n ∷ ns) (t ∷ ts) h = (number_stays old new more n t h.0, numbers_on old new more ns ts h.1)
numbers_on old new more [] (t ∷ ts) h = h
numbers_on old new more (n ∷ ns) [] h = h

pub types_on : (old new : Numbering) → Extends old new → (row later : List ℕ) → GoesOn row later → (x : MethodNumbers) (m : MethodDescriptor) → AreTypes old row x m → AreTypes new later x m
types_on old new more row later on x m h = subst (λ r. AreTypes new r x m) (sym on.1) (record {
  within = let a = h.within in let l = length-append row on.0 in omega arith;
  width = h.width;
  arguments = subst (λ ns. AreNumbers new ns (map descriptor_type m.params)) (sym (arguments_stay x row on.0 h.within)) (numbers_on old new more (arguments_in row x) (map descriptor_type m.params) h.arguments);
  result = number_of_stays old new more x.result (option_map descriptor_type m.result) h.result;
})

pub types_of_on : (old new : Numbering) → Extends old new → (row later : List ℕ) → GoesOn row later → (x : Option MethodNumbers) (m : Option MethodDescriptor) → AreTypesOf old row x m → AreTypesOf new later x m
types_of_on old new more row later on None None h = tt
types_of_on old new more row later on (Some x) (Some m) h = types_on old new more row later on x m h
types_of_on old new more row later on None (Some m) h = h
types_of_on old new more row later on (Some x) None h = h

pub reading_on : (old new : Numbering) → Extends old new → (row later : List ℕ) → GoesOn row later → (m : Option MethodDescriptor) (r : MethodReading) → IsMethodReading old row m r → IsMethodReading new later m r
reading_on old new more row later on m Unread h = tt
reading_on old new more row later on m Nothing h = types_of_on old new more row later on None m h
reading_on old new more row later on m (Types x) h = types_of_on old new more row later on (Some x) m h

-- ---- numbers pushed after a row

numbers_more : (s : Numbering) (ns : List ℕ) (ts : List VerificationType) (n : ℕ) (t : VerificationType) → AreNumbers s ns ts → IsNumber s n t → AreNumbers s (ns ++ n ∷ []) (ts ++ t ∷ [])
numbers_more s [] [] n t h k = (k, tt)
numbers_more s (m ∷ ns) (u ∷ ts) n t h k = (h.0, numbers_more s ns ts n t h.1 k)
numbers_more s [] (u ∷ ts) n t h k = absurd h
numbers_more s (m ∷ ns) [] n t h k = absurd h

pub numbers_length : (s : Numbering) (ns : List ℕ) (ts : List VerificationType) → AreNumbers s ns ts → length ns ≡ length ts
numbers_length s [] [] h = refl
numbers_length s (n ∷ ns) (t ∷ ts) h = let e = numbers_length s ns ts h.1 in grind arith
numbers_length s [] (t ∷ ts) h = absurd h
numbers_length s (n ∷ ns) [] h = absurd h

pub push_one : (old new : Numbering) → Extends old new → (row later : List ℕ) (ts : List VerificationType) → ArePushed old row later ts → (n : ℕ) (t : VerificationType) → IsNumber new n t → (all : List ℕ) → all ≡ later ++ n ∷ [] → ArePushed new row all (ts ++ t ∷ [])
push_one old new more row later ts h n t k all e = record {
  numbers = h.numbers ++ n ∷ [];
  is = e ∙ ap (λ xs. xs ++ n ∷ []) h.is ∙ append_assoc row h.numbers (n ∷ []);
  each = numbers_more new h.numbers ts n t (numbers_on old new more h.numbers ts h.each) k;
}

-- the numbers that were pushed are those from there on
take_all : (ns : List ℕ) (n : ℕ) → n ≡ length ns → take n ns ≡ ns
take_all [] zero e = refl
take_all [] (suc n) e = absurd (omega (arith, e))
take_all (x ∷ ns) zero e = absurd (omega (arith, e))
take_all (x ∷ ns) (suc n) e = ap (λ ys. x ∷ ys) (take_all ns n (omega (arith, e)))

drop_row : (row ns : List ℕ) → drop (length row) (row ++ ns) ≡ ns
drop_row [] ns = refl
drop_row (x ∷ row) ns = drop_row row ns

pub pushed_types : (s : Numbering) (row later : List ℕ) (m : MethodDescriptor) (ns : List ℕ) → later ≡ row ++ ns → AreNumbers s ns (map descriptor_type m.params)
    → (x : MethodNumbers) → x.start ≡ length row → x.count ≡ length ns → x.width ≡ method_width m false → IsNumberOf s x.result (option_map descriptor_type m.result) → AreTypes s later x m
pushed_types s row later m ns e h x start count width result = record {
  within = let l = length-append row ns in let g = ap length e in omega arith;
  width = width;
  arguments = subst (λ ks. AreNumbers s ks (map descriptor_type m.params)) (sym (ap₂ (λ k r. take x.count (drop k r)) start e ∙ ap (take x.count) (drop_row row ns) ∙ take_all ns x.count count)) h;
  result = result;
}

pub method_read : (pool : List Entry) (index : ℕ) (text : List ℕ) → text_at pool index ≡ Ok text → method_in pool index ≡ found (method_answer false text)
method_read pool index text e = ap (λ r. option_and_then (λ t. found (method_answer false t)) (found r)) e

pub item_at : {A : Type 0} (xs : List A) (d : A) (i j : ℕ) (r : A) → i < length xs → j ≡ i → r ≡ get_or xs j r → get_or xs i d ≡ r
item_at xs d i j r h e is = get_or_from_slice_get xs i r d (slice_get_read xs (length xs) i r refl h (is ∙ ap (λ k. get_or xs k r) e))

pub descriptors_stay : (old new : Numbering) → Extends old new → (pool : List Entry) (d : DescriptorNumbers) → AreDescriptors old pool d → AreDescriptors new pool d
descriptors_stay old new more pool d h = record {
  long = h.long;
  read = λ k. reading_on old new more (row_of d) (row_of d) (goes_nowhere (row_of d)) (method_in pool k) (slice_index_or d.readings.items k Unread) (h.read k);
}
