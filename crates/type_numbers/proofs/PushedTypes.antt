-- The numbers of the types of a descriptor, put after a row one by one.
use Rattle.std.proofs.Common.{◌≡◌, ℕ, ◌+◌, false, List, [], ◌∷◌, ◌++◌, map, length, option_map, refl, sym, ap, subst, ◌∙◌, append_assoc, length-append, arith}
use Rattle.std.proofs.lemmas.List.{append-nil, length-map, map-append}
use Rattle.names.specs.Descriptors.{FieldDescriptor, MethodDescriptor, method_width, right_parenthesis}
use Rattle.frames.specs.Slots.{descriptor_type}
use Rattle.type_numbers.specs.declared.method_numbers.MethodNumbers.{MethodNumbers}
use Rattle.type_numbers.specs.Numbers.{Numbering, IsNumber, IsNumberOf, Extends}
use Rattle.type_numbers.specs.MethodNumbers.{AreTypes}
use Rattle.type_numbers.specs.private.Readings.{ArePushed}
use Rattle.type_numbers.specs.private.SpelledTypes.{AreInFront, BeginsWith}
use Rattle.type_numbers.proofs.MethodReadings.{numbers_length, numbers_on, pushed_types, push_one}
use Rattle.type_numbers.proofs.SpelledMethods.{first_begins, others_follow}

-- some of the types have their numbers after the row, and the bytes begin with the others
pub record ArePushing (s : Numbering) (row later bytes : List ℕ) (types : List FieldDescriptor) (rest : List ℕ) : Type 0 where
  pub done : List FieldDescriptor
  pub left : List FieldDescriptor
  pub all : types ≡ done ++ left
  pub pushed : ArePushed s row later (map descriptor_type done)
  pub front : AreInFront bytes left rest

pub none_pushed : (s : Numbering) (row bytes : List ℕ) (types : List FieldDescriptor) (rest : List ℕ) → AreInFront bytes types rest → ArePushing s row row bytes types rest
none_pushed s row bytes types rest h = record {
  done = [];
  left = types;
  all = refl;
  pushed = record { numbers = []; is = sym (append-nil row); each = tt };
  front = h;
}

-- where no type begins, all have their numbers
pub all_pushed : (s : Numbering) (row later bytes : List ℕ) (types : List FieldDescriptor) (rest : List ℕ) → ArePushing s row later bytes types rest
    → ((t : FieldDescriptor) (others : List ℕ) → BeginsWith bytes t others → ⊥) → (bytes ≡ right_parenthesis ∷ rest) × ArePushed s row later (map descriptor_type types)
all_pushed s row later bytes types rest p none = by p.left refl p.front
  where
    by : (left : List FieldDescriptor) → p.left ≡ left → AreInFront bytes left rest → (bytes ≡ right_parenthesis ∷ rest) × ArePushed s row later (map descriptor_type types)
    by [] is f =
        let whole : types ≡ p.done = p.all ∙ ap (λ (xs : List FieldDescriptor). p.done ++ xs) is ∙ append-nil p.done in
        (f.parts, subst (λ (xs : List FieldDescriptor). ArePushed s row later (map descriptor_type xs)) (sym whole) p.pushed)
    by (t ∷ types) is f = absurd (none t _ (first_begins bytes rest t types f))

-- one more has its number
pub next_pushed : (old new : Numbering) → Extends old new → (row later bytes : List ℕ) (types : List FieldDescriptor) (rest : List ℕ) → ArePushing old row later bytes types rest
    → (seen : FieldDescriptor) (behind : List ℕ) → ((t : FieldDescriptor) (others : List ℕ) → BeginsWith bytes t others → (seen ≡ t) × (behind ≡ others)) → ((others : List ℕ) → bytes ≡ right_parenthesis ∷ others → ⊥)
    → (n : ℕ) → IsNumber new n (descriptor_type seen) → (all : List ℕ) → all ≡ later ++ n ∷ [] → ArePushing new row all behind types rest
next_pushed old new more row later bytes types rest p seen behind named some n k all e = by p.left refl p.front
  where
    by : (left : List FieldDescriptor) → p.left ≡ left → AreInFront bytes left rest → ArePushing new row all behind types rest
    by [] is f = absurd (some rest f.parts)
    by (t ∷ ts) is f =
        let found = named t _ (first_begins bytes rest t ts f) in
        record {
          done = p.done ++ t ∷ [];
          left = ts;
          all = p.all ∙ ap (λ (xs : List FieldDescriptor). p.done ++ xs) is ∙ sym (append_assoc p.done (t ∷ []) ts);
          pushed = subst (ArePushed new row all) (sym (map-append descriptor_type p.done (t ∷ [])))
              (push_one old new more row later (map descriptor_type p.done) p.pushed n (descriptor_type t) (subst (λ (x : FieldDescriptor). IsNumber new n (descriptor_type x)) found.0 k) all e);
          front = others_follow bytes behind rest t ts f found.1;
        }

pub pushed_count : (s : Numbering) (row later : List ℕ) (types : List FieldDescriptor) → (p : ArePushed s row later (map descriptor_type types)) → length later ≡ length row + length types
pushed_count s row later types p =
    let l = ap length p.is ∙ length-append row p.numbers in
    let n = numbers_length s p.numbers (map descriptor_type types) p.each ∙ length-map types descriptor_type in
    omega (arith, l, n)

-- the numbers of a whole descriptor
pub descriptor_pushed : (old new : Numbering) → Extends old new → (row later : List ℕ) (m : MethodDescriptor) → ArePushed old row later (map descriptor_type m.params)
    → (x : MethodNumbers) → x.start ≡ length row → x.count ≡ length m.params → x.width ≡ method_width m false → IsNumberOf new x.result (option_map descriptor_type m.result) → AreTypes new later x m
descriptor_pushed old new more row later m p x start count width result =
    let n = numbers_length old p.numbers (map descriptor_type m.params) p.each ∙ length-map m.params descriptor_type in
    pushed_types new row later m p.numbers p.is (numbers_on old new more p.numbers (map descriptor_type m.params) p.each) x start (count ∙ sym n) width result
