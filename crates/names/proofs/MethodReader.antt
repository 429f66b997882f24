-- The reader of methods' descriptors finds what the grammar spells.
use Rattle.std.proofs.Common.{◌≡◌, ℕ, zero, suc, ◌<◌, ◌≤◌, true, false, eqb, List, [], ◌∷◌, ◌++◌, length, Option, Some, None, refl, sym, ap, subst, ◌∙◌, append_assoc, arith, inl, inr}
use Rattle.std.specs.List.{flat_map, AllByRecursion}
use Rattle.std.proofs.lemmas.Bool.{cases_Bool, eqb-true, cond-true, cond-false}
use Rattle.std.proofs.lemmas.List.{length-append}
use Rattle.names.specs.Descriptors.{FieldDescriptor, primitive, class, array, MethodDescriptor, field_spelling, result_spelling, left_parenthesis, right_parenthesis, void_letter, IsWellNamed, IsResultWellNamed, SpellsField, SpellsMethod}
use Rattle.names.specs.Reading.{Reading, found, outside, mapped, followed, read_field, read_params, read_result, read_method, method_type}
use Rattle.names.proofs.Readers.{mapped_found, mapped_outside, StopsAt, SpelledFront, IsReader}
use Rattle.names.proofs.FieldReader.{field_reader, field_nothing}

apart : {A : Type 0} (a : A) (x y : List ℕ) → found a x ≡ outside y → ⊥
apart a x y e = cc

same_value : {A : Type 0} (a b : A) (x y : List ℕ) → found a x ≡ found b y → b ≡ a
same_value a b x y e = cc

same_behind : {A : Type 0} (a b : A) (x y : List ℕ) → found a x ≡ found b y → x ≡ y
same_behind a b x y e = cc

pub same_outside : {A : Type 0} (x y : List ℕ) → (let r : Reading A = outside x in r) ≡ outside y → x ≡ y
same_outside x y e = cc

first_of_two : (a b : ℕ) (x y : List ℕ) → a ∷ x ≡ b ∷ y → a ≡ b
first_of_two a b x y e = cc

rejoined : (bytes a between b rest : List ℕ) → bytes ≡ a ++ between → between ≡ b ++ rest → bytes ≡ (a ++ b) ++ rest
rejoined bytes a between b rest e f = e ∙ ap (λ (x : List ℕ). a ++ x) f ∙ sym (append_assoc a b rest)

-- ---- what a sequence of readings was made from

pub record FollowedFound {A B : Type 0} (r : Reading A) (next : A → List ℕ → Reading B) (b : B) (rest : List ℕ) : Type 0 where
  pub value : A
  pub between : List ℕ
  pub first : r ≡ found value between
  pub second : next value between ≡ found b rest

pub followed_found : {A B : Type 0} (r : Reading A) (next : A → List ℕ → Reading B) (b : B) (rest : List ℕ) → followed r next ≡ found b rest → FollowedFound r next b rest
followed_found (found a between) next b rest e = record { value = a; between = between; first = refl; second = e }
followed_found (outside between) next b rest e = absurd cc

data FollowedOutside {A B : Type 0} (r : Reading A) (next : A → List ℕ → Reading B) (rest : List ℕ) : Type 0 where
  at_first : r ≡ outside rest → FollowedOutside r next rest
  at_second : (a : A) (between : List ℕ) → r ≡ found a between → next a between ≡ outside rest → FollowedOutside r next rest

followed_outside : {A B : Type 0} (r : Reading A) (next : A → List ℕ → Reading B) (rest : List ℕ) → followed r next ≡ outside rest → FollowedOutside r next rest
followed_outside (found a between) next rest e = at_second a between refl e
followed_outside {A} {B} (outside between) next rest e = at_first (ap outside (same_outside {A = B} between rest e))

-- ---- parameters

pub params_done : (n b : ℕ) (bytes : List ℕ) → eqb b right_parenthesis ≡ true → read_params (suc n) (b ∷ bytes) ≡ found [] bytes
unfolding read_params
params_done n b bytes h = cond-true (eqb b right_parenthesis) _ _ h

pub params_go : (n b : ℕ) (bytes : List ℕ) → eqb b right_parenthesis ≡ false
    → read_params (suc n) (b ∷ bytes) ≡ followed (read_field (b ∷ bytes)) (λ t rest. mapped (λ types. t ∷ types) (read_params n rest))
unfolding read_params
params_go n b bytes h = cond-false (eqb b right_parenthesis) _ _ h

pub params_nothing : (n : ℕ) → read_params n [] ≡ outside []
unfolding read_params
params_nothing zero = refl
params_nothing (suc n) = refl

params_out : (bytes : List ℕ) → read_params 0 bytes ≡ outside bytes
unfolding read_params
params_out bytes = refl

no_field : (bytes : List ℕ) → read_field (right_parenthesis ∷ bytes) ≡ outside (right_parenthesis ∷ bytes)
unfolding read_field Rattle.names.specs.Reading.read_base
no_field bytes = refl

-- one more type where a type is found
pub params_step : (n : ℕ) (bytes : List ℕ) (t : FieldDescriptor) (rest : List ℕ) → read_field bytes ≡ found t rest → read_params (suc n) bytes ≡ mapped (λ types. t ∷ types) (read_params n rest)
params_step n [] t rest e = absurd (apart t rest [] (sym e ∙ field_nothing))
params_step n (b ∷ bytes) t rest e =
    elim (cases_Bool (eqb b right_parenthesis)) [
      | inl hit ↦
          let is : b ∷ bytes ≡ right_parenthesis ∷ bytes = ap (λ (x : ℕ). x ∷ bytes) (eqb-true b right_parenthesis hit) in
          absurd (apart t rest (right_parenthesis ∷ bytes) (sym e ∙ ap read_field is ∙ no_field bytes))
      | inr miss ↦ params_go n b bytes miss ∙ ap (λ (r : Reading FieldDescriptor). followed r (λ t rest. mapped (λ types. t ∷ types) (read_params n rest))) e
    ]

-- no parameter, and no ')'
pub params_stop : (n b : ℕ) (bytes rest : List ℕ) → eqb b right_parenthesis ≡ false → read_field (b ∷ bytes) ≡ outside rest → read_params (suc n) (b ∷ bytes) ≡ outside rest
params_stop n b bytes rest miss e = params_go n b bytes miss ∙ ap (λ (r : Reading FieldDescriptor). followed r (λ t rest. mapped (λ types. t ∷ types) (read_params n rest))) e

pub record SpellsParams (bytes : List ℕ) (types : List FieldDescriptor) : Type 0 where
  pub named : AllByRecursion IsWellNamed types
  pub spelled : bytes ≡ flat_map field_spelling types ++ right_parenthesis ∷ []

no_params : SpellsParams (right_parenthesis ∷ []) []
no_params = record { named = tt; spelled = refl }

more_params : (t : FieldDescriptor) (types : List FieldDescriptor) (a b : List ℕ) → SpellsField a t → SpellsParams b types → SpellsParams (a ++ b) (t ∷ types)
more_params t types a b h k =
    record {
      named = (h.named, k.named);
      spelled = ap (λ (x : List ℕ). x ++ b) h.spelled ∙ ap (λ (x : List ℕ). field_spelling t ++ x) k.spelled ∙ sym (append_assoc (field_spelling t) (flat_map field_spelling types) (right_parenthesis ∷ []));
    }

pub params_sound : (n : ℕ) (bytes rest : List ℕ) (types : List FieldDescriptor) → read_params n bytes ≡ found types rest → SpelledFront SpellsParams bytes rest types
params_sound zero bytes rest types e = absurd (apart types rest bytes (sym e ∙ params_out bytes))
params_sound (suc n) [] rest types e = absurd (apart types rest [] (sym e ∙ params_nothing (suc n)))
params_sound (suc n) (b ∷ bytes) rest types e =
    elim (cases_Bool (eqb b right_parenthesis)) [
      | inl hit ↦
          let is = sym (params_done n b bytes hit) ∙ e in
          subst (SpelledFront SpellsParams (b ∷ bytes) rest) (sym (same_value [] types bytes rest is))
          (record {
            front = right_parenthesis ∷ [];
            spells = no_params;
            parts = ap (λ (x : ℕ). x ∷ bytes) (eqb-true b right_parenthesis hit) ∙ ap (λ (x : List ℕ). right_parenthesis ∷ x) (same_behind [] types bytes rest is);
          })
      | inr miss ↦
          let f = followed_found (read_field (b ∷ bytes)) (λ t rest. mapped (λ types. t ∷ types) (read_params n rest)) types rest (sym (params_go n b bytes miss) ∙ e) in
          let m = mapped_found (λ (ts : List FieldDescriptor). f.value ∷ ts) (read_params n f.between) types rest f.second in
          let one = field_reader.sound (b ∷ bytes) f.between f.value f.first in
          let others = params_sound n f.between rest m.0 m.1 in
          subst (SpelledFront SpellsParams (b ∷ bytes) rest) (sym m.2)
          (record {
            front = one.front ++ others.front;
            spells = more_params f.value m.0 one.front others.front one.spells others.spells;
            parts = rejoined (b ∷ bytes) one.front f.between others.front rest one.parts others.parts;
          })
    ]

pub some_letters : (t : FieldDescriptor) → 0 < length (field_spelling t)
some_letters (primitive p) = omega arith
some_letters (class name) = omega arith
some_letters (array t) = omega arith

types_complete : (n : ℕ) (types : List FieldDescriptor) (rest : List ℕ) → AllByRecursion IsWellNamed types → length (flat_map field_spelling types ++ right_parenthesis ∷ rest) ≤ n
    → read_params n (flat_map field_spelling types ++ right_parenthesis ∷ rest) ≡ found types rest
types_complete zero types rest h le = absurd (omega (arith, length-append (flat_map field_spelling types) (right_parenthesis ∷ rest)))
types_complete (suc n) [] rest h le = params_done n right_parenthesis rest refl
types_complete (suc n) (t ∷ types) rest h le =
    let after = flat_map field_spelling types ++ right_parenthesis ∷ rest in
    let regrouped : (field_spelling t ++ flat_map field_spelling types) ++ right_parenthesis ∷ rest ≡ field_spelling t ++ after = append_assoc (field_spelling t) (flat_map field_spelling types) (right_parenthesis ∷ rest) in
    let one = field_reader.complete (field_spelling t) after t (record { named = h.0; spelled = refl }) in
    let len : length ((field_spelling t ++ flat_map field_spelling types) ++ right_parenthesis ∷ rest) ≤ suc n = le in
    let fits : length after ≤ n = omega (arith, len, some_letters t, ap length regrouped, length-append (field_spelling t) after) in
    ap (read_params (suc n)) regrouped ∙ params_step n (field_spelling t ++ after) t after one ∙ ap (mapped (λ ts. t ∷ ts)) (types_complete n types rest h.1 fits)

params_complete : (n : ℕ) (front rest : List ℕ) (types : List FieldDescriptor) → SpellsParams front types → length (front ++ rest) ≤ n → read_params n (front ++ rest) ≡ found types rest
params_complete n front rest types s le =
    let is : front ++ rest ≡ flat_map field_spelling types ++ right_parenthesis ∷ rest = ap (λ (x : List ℕ). x ++ rest) s.spelled ∙ append_assoc (flat_map field_spelling types) (right_parenthesis ∷ []) rest in
    ap (read_params n) is ∙ types_complete n types rest s.named (omega (arith, le, ap length is))

record ParamsStop (bytes rest : List ℕ) : Type 0 where
  front : List ℕ
  more : List ℕ
  types : List FieldDescriptor
  parts : bytes ≡ front ++ rest
  begins : SpellsParams (front ++ more) types
  alike : (n b : ℕ) (r others : List ℕ) → rest ≡ b ∷ r → length (front ++ b ∷ others) ≤ n → read_params n (front ++ b ∷ others) ≡ outside (b ∷ others)

stop_at_nothing : (rest : List ℕ) → [] ≡ rest → ParamsStop [] rest
stop_at_nothing rest e = subst (ParamsStop []) e (record { front = []; more = right_parenthesis ∷ []; types = []; parts = refl; begins = no_params; alike = λ n b r others is le. absurd cc })

-- the first byte of a front and a byte after it is the same, whatever follows
same_start : (front : List ℕ) (b c : ℕ) (bytes r others : List ℕ) → b ∷ bytes ≡ front ++ c ∷ r → (x : List ℕ) × (front ++ c ∷ others ≡ b ∷ x)
same_start [] b c bytes r others e = (others, ap (λ (x : ℕ). x ∷ others) (sym (first_of_two b c bytes r e)))
same_start (y ∷ front) b c bytes r others e = (front ++ c ∷ others, ap (λ (x : ℕ). x ∷ (front ++ c ∷ others)) (sym (first_of_two b y bytes (front ++ c ∷ r) e)))

params_stops : (n : ℕ) (bytes rest : List ℕ) → length bytes ≤ n → read_params n bytes ≡ outside rest → ParamsStop bytes rest
params_stops zero [] rest le e = stop_at_nothing rest (same_outside [] rest (sym (params_nothing zero) ∙ e))
params_stops zero (b ∷ bytes) rest le e = absurd (omega arith)
params_stops (suc n) [] rest le e = stop_at_nothing rest (same_outside [] rest (sym (params_nothing (suc n)) ∙ e))
params_stops (suc n) (b ∷ bytes) rest le e =
    elim (cases_Bool (eqb b right_parenthesis)) [
      | inl hit ↦ absurd (apart [] bytes rest (sym (params_done n b bytes hit) ∙ e))
      | inr miss ↦ by_part (λ x y fits is. params_stops n x y fits is) miss (followed_outside (read_field (b ∷ bytes)) (λ t rest. mapped (λ types. t ∷ types) (read_params n rest)) rest (sym (params_go n b bytes miss) ∙ e))
    ]
  where
    in_type : eqb b right_parenthesis ≡ false → StopsAt read_field SpellsField (b ∷ bytes) rest → ParamsStop (b ∷ bytes) rest
    in_type miss s =
        record {
          front = s.front;
          more = s.more ++ right_parenthesis ∷ [];
          types = s.value ∷ [];
          parts = s.parts;
          begins = subst (λ (x : List ℕ). SpellsParams x (s.value ∷ [])) (append_assoc s.front s.more (right_parenthesis ∷ [])) (more_params s.value [] (s.front ++ s.more) (right_parenthesis ∷ []) s.begins no_params);
          alike = λ k c r others is fits. again miss s.front s.parts s.alike k c r others is fits;
        }
      where
        again : eqb b right_parenthesis ≡ false → (front : List ℕ) → b ∷ bytes ≡ front ++ rest → ((c : ℕ) (r others : List ℕ) → rest ≡ c ∷ r → read_field (front ++ c ∷ others) ≡ outside (c ∷ others))
            → (k c : ℕ) (r others : List ℕ) → rest ≡ c ∷ r → length (front ++ c ∷ others) ≤ k → read_params k (front ++ c ∷ others) ≡ outside (c ∷ others)
        again miss front parts alike zero c r others is fits = absurd (omega (arith, length-append front (c ∷ others)))
        again miss front parts alike (suc k) c r others is fits =
            let start = same_start front b c bytes r others (parts ∙ ap (λ (x : List ℕ). front ++ x) is) in
            ap (read_params (suc k)) start.1 ∙ params_stop k b start.0 (c ∷ others) miss (ap read_field (sym start.1) ∙ alike c r others is)

    behind_type : (t : FieldDescriptor) (between : List ℕ) → SpelledFront SpellsField (b ∷ bytes) between t → ParamsStop between rest → ParamsStop (b ∷ bytes) rest
    behind_type t between one s =
        record {
          front = one.front ++ s.front;
          more = s.more;
          types = t ∷ s.types;
          parts = rejoined (b ∷ bytes) one.front between s.front rest one.parts s.parts;
          begins = subst (λ (x : List ℕ). SpellsParams x (t ∷ s.types)) (sym (append_assoc one.front s.front s.more)) (more_params t s.types one.front (s.front ++ s.more) one.spells s.begins);
          alike = λ k c r others is fits. again one.front one.spells s.front s.alike k c r others is fits;
        }
      where
        again : (a : List ℕ) → SpellsField a t → (front : List ℕ) → ((n c : ℕ) (r others : List ℕ) → rest ≡ c ∷ r → length (front ++ c ∷ others) ≤ n → read_params n (front ++ c ∷ others) ≡ outside (c ∷ others))
            → (k c : ℕ) (r others : List ℕ) → rest ≡ c ∷ r → length ((a ++ front) ++ c ∷ others) ≤ k → read_params k ((a ++ front) ++ c ∷ others) ≡ outside (c ∷ others)
        again a h front alike zero c r others is fits = absurd (omega (arith, length-append (a ++ front) (c ∷ others)))
        again a h front alike (suc k) c r others is fits =
            let after = front ++ c ∷ others in
            let regrouped : (a ++ front) ++ c ∷ others ≡ a ++ after = append_assoc a front (c ∷ others) in
            let some : 0 < length a = omega (arith, some_letters t, ap length h.spelled) in
            let less : length after ≤ k = omega (arith, fits, some, ap length regrouped, length-append a after) in
            ap (read_params (suc k)) regrouped ∙ params_step k (a ++ after) t after (field_reader.complete a after t h) ∙ ap (mapped (λ ts. t ∷ ts)) (alike k c r others is less)

    by_part : ((x y : List ℕ) → length x ≤ n → read_params n x ≡ outside y → ParamsStop x y) → eqb b right_parenthesis ≡ false → FollowedOutside (read_field (b ∷ bytes)) (λ t rest. mapped (λ types. t ∷ types) (read_params n rest)) rest → ParamsStop (b ∷ bytes) rest
    by_part inner miss (at_first is) = in_type miss (field_reader.stops (b ∷ bytes) rest is)
    by_part inner miss (at_second t between is then) =
        let one = field_reader.sound (b ∷ bytes) between t is in
        let some : 0 < length one.front = omega (arith, some_letters t, ap length one.spells.spelled) in
        let fits : length between ≤ n = omega (arith, le, some, ap length one.parts, length-append one.front between) in
        behind_type t between one (inner between rest fits (mapped_outside (λ (ts : List FieldDescriptor). t ∷ ts) (read_params n between) rest then))

-- ---- results

pub record SpellsResult (bytes : List ℕ) (result : Option FieldDescriptor) : Type 0 where
  pub named : IsResultWellNamed result
  pub spelled : bytes ≡ result_spelling result

pub result_void : (b : ℕ) (bytes : List ℕ) → eqb b void_letter ≡ true → read_result (b ∷ bytes) ≡ found None bytes
unfolding read_result
result_void b bytes h = cond-true (eqb b void_letter) _ _ h

pub result_type : (b : ℕ) (bytes : List ℕ) → eqb b void_letter ≡ false → read_result (b ∷ bytes) ≡ mapped Some (read_field (b ∷ bytes))
unfolding read_result
result_type b bytes h = cond-false (eqb b void_letter) _ _ h

pub result_nothing : read_result [] ≡ outside []
unfolding read_result
result_nothing = refl

no_void : (bytes : List ℕ) → read_field (void_letter ∷ bytes) ≡ outside (void_letter ∷ bytes)
unfolding read_field Rattle.names.specs.Reading.read_base
no_void bytes = refl

result_sound : (bytes rest : List ℕ) (o : Option FieldDescriptor) → read_result bytes ≡ found o rest → SpelledFront SpellsResult bytes rest o
result_sound [] rest o e = absurd (apart o rest [] (sym e ∙ result_nothing))
result_sound (b ∷ bytes) rest o e =
    elim (cases_Bool (eqb b void_letter)) [
      | inl hit ↦
          let is = sym (result_void b bytes hit) ∙ e in
          subst (SpelledFront SpellsResult (b ∷ bytes) rest) (sym (same_value None o bytes rest is))
          (record {
            front = void_letter ∷ [];
            spells = record { named = tt; spelled = refl };
            parts = ap (λ (x : ℕ). x ∷ bytes) (eqb-true b void_letter hit) ∙ ap (λ (x : List ℕ). void_letter ∷ x) (same_behind None o bytes rest is);
          })
      | inr miss ↦
          let m = mapped_found Some (read_field (b ∷ bytes)) o rest (sym (result_type b bytes miss) ∙ e) in
          let inner = field_reader.sound (b ∷ bytes) rest m.0 m.1 in
          subst (SpelledFront SpellsResult (b ∷ bytes) rest) (sym m.2) (record { front = inner.front; spells = record { named = inner.spells.named; spelled = inner.spells.spelled }; parts = inner.parts })
    ]

pub result_by_type : (bytes rest : List ℕ) (t : FieldDescriptor) → read_field bytes ≡ found t rest → read_result bytes ≡ found (Some t) rest
result_by_type [] rest t e = absurd (apart t rest [] (sym e ∙ field_nothing))
result_by_type (b ∷ bytes) rest t e =
    elim (cases_Bool (eqb b void_letter)) [
      | inl hit ↦
          let is : b ∷ bytes ≡ void_letter ∷ bytes = ap (λ (x : ℕ). x ∷ bytes) (eqb-true b void_letter hit) in
          absurd (apart t rest (void_letter ∷ bytes) (sym e ∙ ap read_field is ∙ no_void bytes))
      | inr miss ↦ result_type b bytes miss ∙ ap (mapped Some) e
    ]

result_complete : (front rest : List ℕ) (o : Option FieldDescriptor) → SpellsResult front o → read_result (front ++ rest) ≡ found o rest
result_complete front rest None s = ap (λ (x : List ℕ). read_result (x ++ rest)) s.spelled ∙ result_void void_letter rest refl
result_complete front rest (Some t) s = result_by_type (front ++ rest) rest t (field_reader.complete front rest t (record { named = s.named; spelled = s.spelled }))

pub result_stops : (bytes rest : List ℕ) → read_result bytes ≡ outside rest → StopsAt read_result SpellsResult bytes rest
result_stops [] rest e =
    let none : [] ≡ rest = same_outside [] rest (sym result_nothing ∙ e) in
    subst (StopsAt read_result SpellsResult []) none (record { front = []; more = void_letter ∷ []; value = None; parts = refl; begins = record { named = tt; spelled = refl }; alike = λ b r others is. absurd cc })
result_stops (b ∷ bytes) rest e =
    elim (cases_Bool (eqb b void_letter)) [
      | inl hit ↦ absurd (apart None bytes rest (sym (result_void b bytes hit) ∙ e))
      | inr miss ↦ as_type miss (field_reader.stops (b ∷ bytes) rest (mapped_outside Some (read_field (b ∷ bytes)) rest (sym (result_type b bytes miss) ∙ e)))
    ]
  where
    again : eqb b void_letter ≡ false → (front : List ℕ) → b ∷ bytes ≡ front ++ rest → ((c : ℕ) (r others : List ℕ) → rest ≡ c ∷ r → read_field (front ++ c ∷ others) ≡ outside (c ∷ others))
        → (c : ℕ) (r others : List ℕ) → rest ≡ c ∷ r → read_result (front ++ c ∷ others) ≡ outside (c ∷ others)
    again miss front parts alike c r others is =
        let start = same_start front b c bytes r others (parts ∙ ap (λ (x : List ℕ). front ++ x) is) in
        ap read_result start.1 ∙ result_type b start.0 miss ∙ ap (mapped Some) (ap read_field (sym start.1) ∙ alike c r others is)

    as_type : eqb b void_letter ≡ false → StopsAt read_field SpellsField (b ∷ bytes) rest → StopsAt read_result SpellsResult (b ∷ bytes) rest
    as_type miss s =
        record {
          front = s.front;
          more = s.more;
          value = Some s.value;
          parts = s.parts;
          begins = record { named = s.begins.named; spelled = s.begins.spelled };
          alike = again miss s.front s.parts s.alike;
        }

-- ---- whole descriptors

abbrev pub read_rest : List FieldDescriptor → List ℕ → Reading MethodDescriptor
read_rest params rest = mapped (method_type params) (read_result rest)

pub method_begun : (b : ℕ) (bytes : List ℕ) → eqb b left_parenthesis ≡ true → read_method (b ∷ bytes) ≡ followed (read_params (length bytes) bytes) read_rest
unfolding read_method
method_begun b bytes h = cond-true (eqb b left_parenthesis) _ _ h

pub method_outside : (b : ℕ) (bytes : List ℕ) → eqb b left_parenthesis ≡ false → read_method (b ∷ bytes) ≡ outside (b ∷ bytes)
unfolding read_method
method_outside b bytes h = cond-false (eqb b left_parenthesis) _ _ h

pub method_nothing : read_method [] ≡ outside []
unfolding read_method
method_nothing = refl

method_parts : (params : List FieldDescriptor) (result : Option FieldDescriptor) (a b : List ℕ) → SpellsParams a params → SpellsResult b result → SpellsMethod (left_parenthesis ∷ (a ++ b)) (method_type params result)
method_parts params result a b h k =
    record {
      params_named = h.named;
      result_named = k.named;
      spelled = ap (λ (x : List ℕ). left_parenthesis ∷ x) (ap (λ (x : List ℕ). x ++ b) h.spelled ∙ append_assoc (flat_map field_spelling params) (right_parenthesis ∷ []) b ∙ ap (λ (x : List ℕ). flat_map field_spelling params ++ right_parenthesis ∷ x) k.spelled);
    }

method_sound : (bytes rest : List ℕ) (m : MethodDescriptor) → read_method bytes ≡ found m rest → SpelledFront SpellsMethod bytes rest m
method_sound [] rest m e = absurd (apart m rest [] (sym e ∙ method_nothing))
method_sound (b ∷ bytes) rest m e =
    elim (cases_Bool (eqb b left_parenthesis)) [
      | inl hit ↦
          let f = followed_found (read_params (length bytes) bytes) read_rest m rest (sym (method_begun b bytes hit) ∙ e) in
          let o = mapped_found (method_type f.value) (read_result f.between) m rest f.second in
          let ps = params_sound (length bytes) bytes f.between f.value f.first in
          let res = result_sound f.between rest o.0 o.1 in
          subst (SpelledFront SpellsMethod (b ∷ bytes) rest) (sym o.2)
          (record {
            front = left_parenthesis ∷ (ps.front ++ res.front);
            spells = method_parts f.value o.0 ps.front res.front ps.spells res.spells;
            parts = ap (λ (x : ℕ). x ∷ bytes) (eqb-true b left_parenthesis hit) ∙ ap (λ (x : List ℕ). left_parenthesis ∷ x) (rejoined bytes ps.front f.between res.front rest ps.parts res.parts);
          })
      | inr miss ↦ absurd (apart m rest (b ∷ bytes) (sym e ∙ method_outside b bytes miss))
    ]

method_complete : (front rest : List ℕ) (m : MethodDescriptor) → SpellsMethod front m → read_method (front ++ rest) ≡ found m rest
method_complete front rest m s =
    let ps = flat_map field_spelling m.params ++ right_parenthesis ∷ [] in
    let after = result_spelling m.result ++ rest in
    let regrouped : (flat_map field_spelling m.params ++ right_parenthesis ∷ result_spelling m.result) ++ rest ≡ ps ++ after =
    append_assoc (flat_map field_spelling m.params) (right_parenthesis ∷ result_spelling m.result) rest ∙ sym (append_assoc (flat_map field_spelling m.params) (right_parenthesis ∷ []) after) in
    let first = params_complete (length (ps ++ after)) ps after m.params (record { named = s.params_named; spelled = refl }) (omega arith) in
    let second = result_complete (result_spelling m.result) rest m.result (record { named = s.result_named; spelled = refl }) in
    ap (λ (x : List ℕ). read_method (x ++ rest)) s.spelled
    ∙ ap (λ (x : List ℕ). read_method (left_parenthesis ∷ x)) regrouped
    ∙ method_begun left_parenthesis (ps ++ after) refl
    ∙ ap (λ (r : Reading (List FieldDescriptor)). followed r read_rest) first
    ∙ ap (mapped (method_type m.params)) second

method_stops : (bytes rest : List ℕ) → read_method bytes ≡ outside rest → StopsAt read_method SpellsMethod bytes rest
method_stops [] rest e =
    let none : [] ≡ rest = same_outside [] rest (sym method_nothing ∙ e) in
    subst (StopsAt read_method SpellsMethod []) none
    (record { front = []; more = left_parenthesis ∷ right_parenthesis ∷ void_letter ∷ []; value = method_type [] None; parts = refl; begins = record { params_named = tt; result_named = tt; spelled = refl }; alike = λ b r others is. absurd cc })
method_stops (b ∷ bytes) rest e =
    elim (cases_Bool (eqb b left_parenthesis)) [
      | inl hit ↦ subst (λ (x : ℕ). StopsAt read_method SpellsMethod (x ∷ bytes) rest) (sym (eqb-true b left_parenthesis hit))
          (by_part (followed_outside (read_params (length bytes) bytes) read_rest rest (sym (method_begun b bytes hit) ∙ e)))
      | inr miss ↦
          let same : b ∷ bytes ≡ rest = same_outside (b ∷ bytes) rest (sym (method_outside b bytes miss) ∙ e) in
          subst (StopsAt read_method SpellsMethod (b ∷ bytes)) same
          (record {
            front = [];
            more = left_parenthesis ∷ right_parenthesis ∷ void_letter ∷ [];
            value = method_type [] None;
            parts = refl;
            begins = record { params_named = tt; result_named = tt; spelled = refl };
            alike = λ c r others is. subst (λ (x : ℕ). read_method (x ∷ others) ≡ outside (x ∷ others)) (first_of_two b c bytes r is) (method_outside b others miss);
          })
    ]
  where
    in_params : ParamsStop bytes rest → StopsAt read_method SpellsMethod (left_parenthesis ∷ bytes) rest
    in_params s =
        record {
          front = left_parenthesis ∷ s.front;
          more = s.more ++ void_letter ∷ [];
          value = method_type s.types None;
          parts = ap (λ (x : List ℕ). left_parenthesis ∷ x) s.parts;
          begins = subst (λ (x : List ℕ). SpellsMethod (left_parenthesis ∷ x) (method_type s.types None)) (append_assoc s.front s.more (void_letter ∷ []))
              (method_parts s.types None (s.front ++ s.more) (void_letter ∷ []) s.begins (record { named = tt; spelled = refl }));
          alike = λ c r others is. method_begun left_parenthesis (s.front ++ c ∷ others) refl
              ∙ ap (λ (r : Reading (List FieldDescriptor)). followed r read_rest) (s.alike (length (s.front ++ c ∷ others)) c r others is (omega arith));
        }

    behind_params : (params : List FieldDescriptor) (between : List ℕ) → SpelledFront SpellsParams bytes between params → StopsAt read_result SpellsResult between rest → StopsAt read_method SpellsMethod (left_parenthesis ∷ bytes) rest
    behind_params params between ps s =
        record {
          front = left_parenthesis ∷ (ps.front ++ s.front);
          more = s.more;
          value = method_type params s.value;
          parts = ap (λ (x : List ℕ). left_parenthesis ∷ x) (rejoined bytes ps.front between s.front rest ps.parts s.parts);
          begins = subst (λ (x : List ℕ). SpellsMethod (left_parenthesis ∷ x) (method_type params s.value)) (sym (append_assoc ps.front s.front s.more))
              (method_parts params s.value ps.front (s.front ++ s.more) ps.spells s.begins);
          alike = λ c r others is.
              let after = s.front ++ c ∷ others in
              let regrouped : (ps.front ++ s.front) ++ c ∷ others ≡ ps.front ++ after = append_assoc ps.front s.front (c ∷ others) in
              let first = params_complete (length (ps.front ++ after)) ps.front after params ps.spells (omega arith) in
              ap (λ (x : List ℕ). read_method (left_parenthesis ∷ x)) regrouped
              ∙ method_begun left_parenthesis (ps.front ++ after) refl
              ∙ ap (λ (r : Reading (List FieldDescriptor)). followed r read_rest) first
              ∙ ap (mapped (method_type params)) (s.alike c r others is);
        }

    by_part : FollowedOutside (read_params (length bytes) bytes) read_rest rest → StopsAt read_method SpellsMethod (left_parenthesis ∷ bytes) rest
    by_part (at_first is) = in_params (params_stops (length bytes) bytes rest (omega arith) is)
    by_part (at_second params between is then) =
        behind_params params between (params_sound (length bytes) bytes between params is) (result_stops between rest (mapped_outside (method_type params) (read_result between) rest then))

pub method_reader : IsReader read_method SpellsMethod
method_reader = record { sound = method_sound; complete = method_complete; stops = method_stops }
