-- Types by their slots: a type is got back from tag, dimensions and the two bytes after them.
use Rattle.std.proofs.Common.{◌≡◌, ◌≢◌, ◌∙◌, ℕ, zero, suc, ◌+◌, ◌*◌, ◌-◌, ◌<◌, ◌≤◌, Bool, true, false, cond, ◌&&◌, nat_lt, nat_eq, List, Option, Some, None, slice_get, [], refl, sym, ap, subst, arith}
use Rattle.std.specs.Prelude.{if◌then◌else◌}
use Rattle.std.specs.Option.{option_map_or}
use Rattle.std.proofs.lemmas.Bool.{ltb-true, and_parts}
use Rattle.names.specs.declared.base.Primitive.{Primitive}
use Rattle.names.specs.declared.base.Primitive.TheVariants.{Byte, Char, Double, Float, Int, Long, Short, Boolean}
use Rattle.names.specs.Descriptors.{FieldDescriptor, primitive, class as class_type, array as array_type, dimensioned}
use Rattle.hierarchy.specs.Class.{ClassFact}
use Rattle.hierarchy.specs.Places.{place_in}
use Rattle.hierarchy.specs.Answer.{yes}
use Rattle.hierarchy.proofs.PlacesKept.{named_there}
use Rattle.frames.specs.VerificationType.{VerificationType, top, int, float, long, double, null, class, array, uninit_this, uninit}
use Rattle.frames.specs.FrameAssignable.{item_answer}
use Rattle.frames.specs.Packing.{absent_slot, slot, element_code, class_slot, array_slot, slot_of}
use Rattle.frames.proofs.Frames.{item_itself}

-- the name of the class at a place; empty where there is none
abbrev name_at : List ClassFact → ℕ → List ℕ
name_at classes i = option_map_or (λ (c : ClassFact). c.name) (slice_get classes i) []

-- dimensions counted on
pub array_counted : (classes : List ClassFact) (d k : ℕ) (x : FieldDescriptor) → array_slot classes d (dimensioned k x) ≡ array_slot classes (d + k) x
array_counted classes d zero x = let e : d ≡ d + 0 = omega arith in ap (λ n. array_slot classes n x) e
array_counted classes d (suc k) x = let e : (d + 1) + k ≡ d + suc k = omega arith in array_counted classes (d + 1) k x ∙ ap (λ n. array_slot classes n x) e

dimension_inside : (k : ℕ) (x : FieldDescriptor) → array_type (dimensioned k x) ≡ dimensioned k (array_type x)
dimension_inside zero x = refl
dimension_inside (suc k) x = ap array_type (dimension_inside k x)

abbrev element_at : ℕ → Primitive
element_at n =
    if nat_eq n 4 then Boolean
    else if nat_eq n 5 then Char
    else if nat_eq n 6 then Float
    else if nat_eq n 7 then Double
    else if nat_eq n 8 then Byte
    else if nat_eq n 9 then Short
    else if nat_eq n 10 then Int
    else Long

element_back : (p : Primitive) → element_at (element_code p) ≡ p
element_back Boolean = refl
element_back Char = refl
element_back Float = refl
element_back Double = refl
element_back Byte = refl
element_back Short = refl
element_back Int = refl
element_back Long = refl

module _ (classes : List ClassFact) where
  abbrev class_back : ℕ → ℕ → VerificationType
  class_back zero place = class (name_at classes place)
  class_back (suc k) place = array (dimensioned k (class_type (name_at classes place)))

  -- the type of a tag, a number of dimensions, and the rest
  abbrev type_back : ℕ → ℕ → ℕ → VerificationType
  type_back tag dims rest =
      if nat_eq tag 0 then top
      else if nat_eq tag 1 then int
      else if nat_eq tag 2 then float
      else if nat_eq tag 3 then double
      else if nat_eq tag 4 then long
      else if nat_eq tag 5 then null
      else if nat_eq tag 6 then uninit_this
      else if nat_eq tag 7 then class_back dims rest
      else if nat_eq tag 8 then uninit rest
      else array (dimensioned (dims - 1) (primitive (element_at rest)))

  record Told (t : VerificationType) (n : ℕ) : Type 0 where
    tag : ℕ
    dims : ℕ
    rest : ℕ
    few : dims < 256
    small : rest < 65536
    is : n ≡ tag * 16777216 + dims * 65536 + rest
    back : type_back tag dims rest ≡ t

  told_slot : (tag dims rest : ℕ) (t : VerificationType) → slot tag dims rest ≢ absent_slot → type_back tag dims rest ≡ t → Told t (slot tag dims rest)
  told_slot tag dims rest t there back = by (nat_lt dims 256 && nat_lt rest 65536) refl
    where
      by : (b : Bool) → (nat_lt dims 256 && nat_lt rest 65536) ≡ b → Told t (slot tag dims rest)
      by false e = absurd (there (ap (λ b. cond b (tag * 16777216 + dims * 65536 + rest) absent_slot) e))
      by true e =
          let p = and_parts _ _ e in
          record {
            tag = tag;
            dims = dims;
            rest = rest;
            few = ltb-true dims 256 p.0;
            small = ltb-true rest 65536 p.1;
            is = ap (λ b. cond b (tag * 16777216 + dims * 65536 + rest) absent_slot) e;
            back = back;
          }

  -- the class at a place that was found
  name_back : (name : List ℕ) (n : ℕ) → place_in classes name ≡ Some n → name_at classes n ≡ name
  name_back name n e =
      let x = named_there classes name n (slice_get classes n) refl e in
      ap (λ o. option_map_or (λ (c : ClassFact). c.name) o []) x.1 ∙ sym x.2

  told_class : (dims : ℕ) (name : List ℕ) (t : VerificationType) (o : Option ℕ) → place_in classes name ≡ o → class_slot dims o ≢ absent_slot
      → ((place : ℕ) → name_at classes place ≡ name → class_back dims place ≡ t) → Told t (class_slot dims o)
  told_class dims name t None e there back = absurd (there refl)
  told_class dims name t (Some n) e there back = told_slot 7 dims n t there (back n (name_back name n e))

  array_back : (d place : ℕ) (name : List ℕ) → 1 ≤ d → name_at classes place ≡ name → class_back d place ≡ array (dimensioned (d - 1) (class_type name))
  array_back zero place name h e = absurd (omega (arith, h))
  array_back (suc k) place name h e =
      let less : k ≡ suc k - 1 = omega arith in
      ap (λ n. array (dimensioned k (class_type n))) e ∙ ap (λ j. array (dimensioned j (class_type name))) less

  told_array : (d : ℕ) (x : FieldDescriptor) → 1 ≤ d → array_slot classes d x ≢ absent_slot → Told (array (dimensioned (d - 1) x)) (array_slot classes d x)
  told_array d (primitive p) h there = told_slot 9 d (element_code p) _ there (ap (λ q. array (dimensioned (d - 1) (primitive q))) (element_back p))
  told_array d (class_type name) h there = told_class d name _ (place_in classes name) refl there (λ place e. array_back d place name h e)
  told_array d (array_type x) h there =
      let more : (d + 1) - 1 ≡ suc (d - 1) = omega (arith, h) in
      let same : array (dimensioned ((d + 1) - 1) x) ≡ array (dimensioned (d - 1) (array_type x)) = ap (λ k. array (dimensioned k x)) more ∙ ap array (dimension_inside (d - 1) x) in
      subst (λ t. Told t (array_slot classes (d + 1) x)) same (told_array (d + 1) x (omega arith) there)

  told : (t : VerificationType) → slot_of classes t ≢ absent_slot → Told t (slot_of classes t)
  told top there = told_slot 0 0 0 top there refl
  told int there = told_slot 1 0 0 int there refl
  told float there = told_slot 2 0 0 float there refl
  told double there = told_slot 3 0 0 double there refl
  told long there = told_slot 4 0 0 long there refl
  told null there = told_slot 5 0 0 null there refl
  told uninit_this there = told_slot 6 0 0 uninit_this there refl
  told (class name) there = told_class 0 name (class name) (place_in classes name) refl there (λ place e. ap class e)
  told (uninit offset) there = told_slot 8 0 offset (uninit offset) there refl
  told (array x) there = told_array 1 x (omega arith) there

  one_type : (s t : VerificationType) (n : ℕ) → Told s n → Told t n → s ≡ t
  one_type s t n p q =
      let a = p.is in
      let b = q.is in
      let pf = p.few in
      let ps = p.small in
      let qf = q.few in
      let qs = q.small in
      let tags : p.tag ≡ q.tag = omega (arith, a, b, pf, ps, qf, qs) in
      let dims : p.dims ≡ q.dims = omega (arith, a, b, pf, ps, qf, qs) in
      let rests : p.rest ≡ q.rest = omega (arith, a, b, pf, ps, qf, qs) in
      sym p.back ∙ (λ i. type_back (tags i) (dims i) (rests i)) ∙ q.back

pub equal_types : (classes : List ClassFact) (s t : VerificationType) → slot_of classes s ≡ slot_of classes t → slot_of classes t ≢ absent_slot → s ≡ t
equal_types classes s t e there =
    one_type classes s t (slot_of classes t) (subst (Told classes s) e (told classes s (λ f. there (sym e ∙ f)))) (told classes t there)

pub equal_is_yes : (classes : List ClassFact) (s t : VerificationType) → slot_of classes s ≡ slot_of classes t → slot_of classes t ≢ absent_slot → item_answer classes s t ≡ yes
equal_is_yes classes s t e there = subst (λ x. item_answer classes s x ≡ yes) (equal_types classes s t e there) (item_itself classes s)
