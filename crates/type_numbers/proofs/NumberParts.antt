-- The parts of numbers, and of the numbers of arrays.
use Rattle.std.proofs.Common.{◌≡◌, ◌∙◌, ℕ, zero, suc, ◌+◌, ◌*◌, ◌/◌, ◌%◌, ◌<◌, Bool, true, false, cond, ◌&&◌, nat_lt, List, Some, None, refl, sym, ap, arith}
use Rattle.std.proofs.lemmas.Bool.{ltb-true, and_parts}
use Rattle.names.specs.Descriptors.{FieldDescriptor, class as class_type, array as array_type, dimensioned}
use Rattle.hierarchy.specs.Class.{ClassFact}
use Rattle.hierarchy.proofs.Names.{none_some, some_same}
use Rattle.type_numbers.specs.Numbers.{Numbering, IsNoted, IsBaseNoted, numbered, array_number}

-- a number by its parts
pub record HasParts (tag dims rest n : ℕ) : Type 0 where
  pub few : dims < 256
  pub small : rest < 65536
  pub is : n ≡ tag * 16777216 + dims * 65536 + rest

pub parts_of : (tag dims rest n : ℕ) → numbered tag dims rest ≡ Some n → HasParts tag dims rest n
parts_of tag dims rest n e = by (nat_lt dims 256 && nat_lt rest 65536) refl e
  where
    by : (b : Bool) → (nat_lt dims 256 && nat_lt rest 65536) ≡ b → cond b (Some (tag * 16777216 + dims * 65536 + rest)) None ≡ Some n → HasParts tag dims rest n
    by false h e = absurd (none_some e)
    by true h e =
        let p = and_parts _ _ h in
        record { few = ltb-true dims 256 p.0; small = ltb-true rest 65536 p.1; is = sym (some_same e) }

module _ (tag dims rest n : ℕ) (h : HasParts tag dims rest n) where
  pub tag_back : n / 16777216 ≡ tag
  tag_back = let is = h.is in let few = h.few in let small = h.small in omega arith

  pub dims_back : n / 65536 % 256 ≡ dims
  dims_back = let is = h.is in let few = h.few in let small = h.small in omega arith

  pub rest_back : n % 65536 ≡ rest
  rest_back = let is = h.is in let few = h.few in let small = h.small in omega arith

-- dimensions counted on
pub array_counted : (classes : List ClassFact) (absent : List (List ℕ)) (d k : ℕ) (x : FieldDescriptor) → array_number classes absent d (dimensioned k x) ≡ array_number classes absent (d + k) x
array_counted classes absent d zero x = let e : d ≡ d + 0 = omega arith in ap (λ n. array_number classes absent n x) e
array_counted classes absent d (suc k) x =
    let e : (d + 1) + k ≡ d + suc k = omega arith in
    array_counted classes absent (d + 1) k x ∙ ap (λ n. array_number classes absent n x) e

-- the class that an array is one of
pub base_noted : (s : Numbering) (k : ℕ) (name : List ℕ) → IsNoted s name → IsBaseNoted s (dimensioned k (class_type name))
base_noted s zero name h = h
base_noted s (suc k) name h = base_noted s k name h

pub dimension_inside : (k : ℕ) (x : FieldDescriptor) → array_type (dimensioned k x) ≡ dimensioned k (array_type x)
dimension_inside zero x = refl
dimension_inside (suc k) x = ap array_type (dimension_inside k x)
