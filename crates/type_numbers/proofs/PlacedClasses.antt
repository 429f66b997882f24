-- Classes by the parts of their numbers, and what is answered about them.
use Rattle.std.proofs.Common.{◌≡◌, ◌≢◌, ◌∙◌, ℕ, zero, suc, ◌+◌, ◌/◌, ◌%◌, ◌≤◌, ◌||◌, Bool, true, false, cond, if◌then◌else◌, nat_lt, nat_eq, List, Option, Some, None, option_map, length, position, refl, sym, ap, subst, arith}
use Rattle.std.specs.Option.{option_map_or}
use Rattle.std.specs.Str.{bytes_eq}
use Rattle.std.proofs.lemmas.Bool.{eqb-true, ltb-true}
use Rattle.std.proofs.lemmas.Bool.Decides.{nat_tests}
use Rattle.std.proofs.lemmas.Slice.Eq.{bytes_eq-Decides}
use Rattle.names.specs.Descriptors.{class as class_type, dimensioned}
use Rattle.names.specs.StandardNames.{object_name}
use Rattle.hierarchy.specs.Answer.{Outcome, SubclassAnswer, missing, on_chain, yes, yes_if}
use Rattle.hierarchy.specs.Class.{ClassFact, class_of, interface_of, world_of}
use Rattle.hierarchy.specs.Places.{place_in}
use Rattle.hierarchy.proofs.Names.{no_place, none_some, some_same}
use Rattle.hierarchy.proofs.Subclass.{one_answer}
use Rattle.frames.specs.Assignable.{class_answer, component_answer, lookup_answer, type_answer}
use Rattle.frames.specs.VerificationType.{VerificationType}
use Rattle.type_numbers.specs.Numbers.{Numbering, IsNumber, absent_limit, class_number, number_by, numbered}
use Rattle.type_numbers.specs.Decoding.{name_at, type_at, type_named, type_with}
use Rattle.type_numbers.specs.private.ClassesAt.{names_class, IsClassAt}
use Rattle.type_numbers.proofs.Decoded.{absent_name, far, read_back}
use Rattle.type_numbers.proofs.NumberParts.{array_counted, parts_of, tag_back, rest_back}

module _ (s : Numbering) (n : ℕ) where
  -- where a class stands, by the tag and the last two bytes of its number
  places : (dims : ℕ) (name : List ℕ) → class_number s.classes s.absent dims name ≡ Some n → place_in s.classes name ≡ (if nat_eq (n / 16777216) 7 then Some (n % 65536) else None)
  places dims name e = by (place_in s.classes name) refl (position (bytes_eq name) s.absent) e
    where
      at_tag : (tag : ℕ) → n / 16777216 ≡ tag → place_in s.classes name ≡ (if nat_eq tag 7 then Some (n % 65536) else None) → place_in s.classes name ≡ (if nat_eq (n / 16777216) 7 then Some (n % 65536) else None)
      at_tag tag is h = subst (λ k. place_in s.classes name ≡ (if nat_eq k 7 then Some (n % 65536) else None)) (sym is) h

      beyond : (tag : ℕ) → 10 ≤ tag → place_in s.classes name ≡ None → place_in s.classes name ≡ (if nat_eq tag 7 then Some (n % 65536) else None)
      beyond tag h is = let e : nat_eq tag 7 ≡ false = grind (arith, nat_tests) in is ∙ sym (ap (λ b. if b then Some (n % 65536) else None) e)

      absent : (k : ℕ) → place_in s.classes name ≡ None → (b : Bool) → cond b (numbered (10 + k / 65536) dims (k % 65536)) None ≡ Some n → place_in s.classes name ≡ (if nat_eq (n / 16777216) 7 then Some (n % 65536) else None)
      absent k is false h = absurd (none_some h)
      absent k is true h =
          let tag = tag_back (10 + k / 65536) dims (k % 65536) n (parts_of (10 + k / 65536) dims (k % 65536) n h) in
          at_tag (10 + k / 65536) tag (beyond (10 + k / 65536) (omega arith) is)

      by : (o : Option ℕ) → place_in s.classes name ≡ o → (q : Option ℕ) → number_by dims o q ≡ Some n → place_in s.classes name ≡ (if nat_eq (n / 16777216) 7 then Some (n % 65536) else None)
      by (Some place) is q f =
          let parts = parts_of 7 dims place n f in
          at_tag 7 (tag_back 7 dims place n parts) (is ∙ ap (λ k. Some k) (sym (rest_back 7 dims place n parts)))
      by None is (Some k) f = absent k is (nat_lt k absent_limit) f
      by None is None f = absurd (none_some f)

  -- the place of a class is in its number
  pub placed : (name : List ℕ) → class_number s.classes s.absent 0 name ≡ Some n → n / 16777216 ≡ 7 → place_in s.classes name ≡ Some (n % 65536)
  placed name e tag = places 0 name e ∙ ap (λ k. if nat_eq k 7 then Some (n % 65536) else None) tag

  number_named : (d : ℕ) (name : List ℕ) → IsNumber s n (type_named d name) → class_number s.classes s.absent d name ≡ Some n
  number_named zero name h = h.number
  number_named (suc k) name h =
      let more : suc k ≡ 1 + k = omega arith in
      ap (λ d. class_number s.classes s.absent d name) more ∙ sym (array_counted s.classes s.absent 1 k (class_type name)) ∙ h.number

  named_type : (tag dims rest : ℕ) → names_class tag ≡ true → type_at s tag dims rest ≡ type_with dims (name_at s tag rest)
  named_type tag dims rest e = by (nat_eq tag 7) refl e
    where
      by : (b : Bool) → nat_eq tag 7 ≡ b → (b || nat_lt 9 tag) ≡ true → type_at s tag dims rest ≡ type_with dims (name_at s tag rest)
      by true is f = let seven = eqb-true tag 7 is in subst (λ k. type_at s k dims rest ≡ type_with dims (name_at s k rest)) (sym seven) refl
      by false is f =
          let high = ltb-true 9 tag f in
          far s tag dims rest (omega (arith, high)) ∙ ap (type_with dims) (sym (absent_name s tag rest (λ seven. omega (arith, high, seven))))

  -- a type whose number has a tag of classes is a class, or an array of one
  pub class_at : (t : VerificationType) → IsNumber s n t → names_class (n / 16777216) ≡ true
      → (name : List ℕ) × (t ≡ type_named (n / 65536 % 256) name) × IsClassAt s (n / 16777216) (n % 65536) name
  class_at t h e = by (name_at s (n / 16777216) (n % 65536)) refl (sym (named_type (n / 16777216) (n / 65536 % 256) (n % 65536) e) ∙ read_back s n t h)
    where
      by : (o : Option (List ℕ)) → name_at s (n / 16777216) (n % 65536) ≡ o → type_with (n / 65536 % 256) o ≡ Some t
          → (name : List ℕ) × (t ≡ type_named (n / 65536 % 256) name) × IsClassAt s (n / 16777216) (n % 65536) name
      by None is f = absurd (none_some f)
      by (Some name) is f =
          let same = sym (some_same f) in
          (name, same, record { is = is; place = places (n / 65536 % 256) name (number_named (n / 65536 % 256) name (subst (IsNumber s n) same h)) })

-- where it stands, by its tag
module _ (s : Numbering) (tag rest : ℕ) (name : List ℕ) (h : IsClassAt s tag rest name) where
  pub stands : tag ≡ 7 → place_in s.classes name ≡ Some rest
  stands seven = h.place ∙ ap (λ k. if nat_eq k 7 then Some rest else None) seven

  pub is_absent : tag ≢ 7 → class_of s.classes name ≡ None
  is_absent other =
      let e : nat_eq tag 7 ≡ false = grind (arith, nat_tests) in
      no_place (λ (c : ClassFact). bytes_eq name c.name) s.classes (h.place ∙ ap (λ b. if b then Some rest else None) e)

-- ---- answers for classes

component_named : (classes : List ClassFact) (k : ℕ) (a b : List ℕ) → component_answer classes (dimensioned k (class_type a)) (dimensioned k (class_type b)) ≡ class_answer classes a b
component_named classes zero a b = refl
component_named classes (suc k) a b = component_named classes k a b

-- for arrays of equally many dimensions as for the classes that they are of
pub named_answer : (classes : List ClassFact) (d : ℕ) (a b : List ℕ) → type_answer classes (type_named d a) (type_named d b) ≡ class_answer classes a b
named_answer classes zero a b = refl
named_answer classes (suc k) a b = component_named classes k a b

module _ (classes : List ClassFact) (a b : List ℕ) where
  apart : a ≢ b → bytes_eq a b ≡ false
  apart differ = by (bytes_eq a b) refl
    where
      by : (t : Bool) → bytes_eq a b ≡ t → t ≡ false
      by true h = absurd (differ ((bytes_eq-Decides a b).0 h))
      by false h = refl

  -- a class that is looked up and is absent
  pub absent_answer : class_of classes b ≡ None → missing b ≡ lookup_answer classes a b (interface_of classes b)
  absent_answer e = sym (ap (λ o. lookup_answer classes a b (option_map (λ (c : ClassFact). c.interface) o)) e)

  -- one that is no interface, where it is asked about a class that is absent, or about one that is there
  pub lower_absent : a ≢ b → interface_of classes b ≡ Some false → class_of classes a ≡ None → missing a ≡ lookup_answer classes a b (interface_of classes b)
  lower_absent differ e none =
      sym (ap (lookup_answer classes a b) e
      ∙ (λ i. if apart differ i then yes else option_map_or (λ _. yes_if (on_chain (world_of classes) (length classes) a b)) (none i) (missing a)))

  pub lower_present : (r : Bool) → interface_of classes b ≡ Some false → SubclassAnswer classes a b (yes_if r) → yes_if r ≡ lookup_answer classes a b (interface_of classes b)
  lower_present r e below = (one_answer classes a b (yes_if r)).0 below ∙ sym (ap (lookup_answer classes a b) e)

  -- two classes that differ, where the look-up gives an answer
  pub found_answer : (r : Outcome) → a ≢ b → r ≡ lookup_answer classes a b (interface_of classes b) → bytes_eq b object_name ≡ false → r ≡ class_answer classes a b
  found_answer r differ e other =
      e ∙ sym (λ i. if apart differ i || other i then yes else lookup_answer classes a b (interface_of classes b))

  pub yes_answer : yes ≡ lookup_answer classes a b (interface_of classes b) → yes ≡ class_answer classes a b
  yes_answer e = by (bytes_eq a b || bytes_eq b object_name)
    where
      by : (c : Bool) → yes ≡ (if c then yes else lookup_answer classes a b (interface_of classes b))
      by true = refl
      by false = e

  pub object_answer : bytes_eq b object_name ≡ true → yes ≡ class_answer classes a b
  object_answer e = by (bytes_eq a b)
    where
      by : (c : Bool) → yes ≡ (if c || bytes_eq b object_name then yes else lookup_answer classes a b (interface_of classes b))
      by true = refl
      by false = sym (ap (λ t. if t then yes else lookup_answer classes a b (interface_of classes b)) e)
