-- The numbers that types are given.
use Rattle.std.proofs.Common.{◌≡◌, ◌∙◌, ℕ, zero, suc, ◌+◌, ◌-◌, ◌<◌, ◌≤◌, List, Some, None, Result, Ok, Err, IfOk, refl, sym, ap, ap₂, arith, position}
use Rattle.std.specs.declared.alloc.AllocError.{AllocError}
use Rattle.std.specs.Borrow.{Bor}
use Rattle.std.specs.Result.{result_ok}
use Rattle.std.specs.Str.{bytes_eq}
use Rattle.std.proofs.lemmas.Bool.{lt-ltb}
use Rattle.names.specs.declared.base.Base.{Base}
use Rattle.names.specs.declared.base.Primitive.{Primitive}
use Rattle.names.specs.declared.base.Primitive.TheVariants.{Byte, Char, Double, Float, Int, Long, Short, Boolean}
use Rattle.names.specs.Descriptors.{primitive, class as class_type, dimensioned}
use Rattle.hierarchy.specs.Class.{ClassFact}
use Rattle.hierarchy.specs.Places.{place_in}
use Rattle.frames.specs.declared.vtype.VType.{VType}
use Rattle.frames.specs.declared.vtype.VType.TheVariants as kinds
use Rattle.frames.specs.VerificationType.{array, type_of}
use Rattle.frames.specs.Packing.{slot, slot_of, element_code}
use Rattle.frames.proofs.SlotTypes.{array_counted as slots_counted}
use Rattle.type_numbers.specs.Numbers.{Numbering, IsNoted, IsBaseNoted, IsNumber, absent_number, number_by, numbered, class_number}
use Rattle.type_numbers.proofs.NumberParts.{array_counted, base_noted}

-- a class of the hierarchy
pub present_given : (classes : List ClassFact) (ns : List (List ℕ)) (name : List ℕ) (dims place n : ℕ) → place_in classes name ≡ Some place → numbered 7 dims place ≡ Some n → class_number classes ns dims name ≡ Some n
present_given classes ns name dims place n there is = ap (λ o. number_by dims o (position (bytes_eq name) ns)) there ∙ is

-- an absent class
pub absent_given : (classes : List ClassFact) (ns : List (List ℕ)) (name : List ℕ) (dims place : ℕ) (r : Result ℕ AllocError) → place_in classes name ≡ None → position (bytes_eq name) ns ≡ Some place → result_ok r ≡ absent_number dims place → IfOk r (λ n. class_number classes ns dims name ≡ Some n)
absent_given classes ns name dims place (Ok n) there at is = ap₂ (number_by dims) there at ∙ sym is
absent_given classes ns name dims place (Err e) there at is = tt

all_dimensions : (d : ℕ) → 1 ≤ d → 1 + (d - 1) ≡ d
all_dimensions d h = omega arith

-- an array of a class
pub array_given : (s : Numbering) (d : ℕ) (name : List ℕ) (r : Result ℕ AllocError) → 1 ≤ d → IfOk r (λ n. class_number s.classes s.absent d name ≡ Some n) → IfOk r (λ n. IsNoted s name) → IfOk r (λ n. IsNumber s n (array (dimensioned (d - 1) (class_type name))))
array_given s d name (Ok n) h e noted = record {
  number = array_counted s.classes s.absent 1 (d - 1) (class_type name) ∙ ap (λ k. class_number s.classes s.absent k name) (all_dimensions d h) ∙ e;
  noted = base_noted s (d - 1) name noted;
}
array_given s d name (Err x) h e noted = tt

-- an array of a primitive type
code_small : (p : Primitive) → element_code p < 65536
code_small Boolean = omega arith
code_small Char = omega arith
code_small Float = omega arith
code_small Double = omega arith
code_small Byte = omega arith
code_small Short = omega arith
code_small Int = omega arith
code_small Long = omega arith

numbered_slot : (tag dims rest : ℕ) → dims < 256 → rest < 65536 → numbered tag dims rest ≡ Some (slot tag dims rest)
numbered_slot tag dims rest few small = rw (lt-ltb dims 256 few, lt-ltb rest 65536 small) refl

primitive_noted : (s : Numbering) (k : ℕ) (p : Primitive) → IsBaseNoted s (dimensioned k (primitive p))
primitive_noted s zero p = tt
primitive_noted s (suc k) p = primitive_noted s k p

pub primitive_given : (s : Numbering) (classes : List ClassFact) (d n : ℕ) (p : Primitive) → 1 ≤ d → d < 256 → n ≡ slot_of classes (array (dimensioned (d - 1) (primitive p))) → IsNumber s n (array (dimensioned (d - 1) (primitive p)))
primitive_given s classes d n p h few e =
    let all = all_dimensions d h in
    let as_slot = slots_counted classes 1 (d - 1) (primitive p) ∙ ap (λ k. slot 9 k (element_code p)) all in
    record {
      number = array_counted s.classes s.absent 1 (d - 1) (primitive p) ∙ ap (λ k. numbered 9 k (element_code p)) all ∙ numbered_slot 9 d (element_code p) few (code_small p) ∙ ap (λ m. Some m) (sym (e ∙ as_slot));
      noted = primitive_noted s (d - 1) p;
    }

-- a type that names no class and no offset
pub plain_given : (s : Numbering) (classes : List ClassFact) (v : VType) (n : ℕ) → ((x : Bor (List ℕ)) → v ≡ kinds.Class x → ⊥) → ((d : ℕ) (b : Base) → v ≡ kinds.Array d b → ⊥) → ((o : ℕ) → v ≡ kinds.Uninit o → ⊥) → n ≡ slot_of classes (type_of v) → IsNumber s n (type_of v)
plain_given s classes kinds.Top n a b c e = record { number = ap (λ m. Some m) (sym e); noted = tt }
plain_given s classes kinds.Int n a b c e = record { number = ap (λ m. Some m) (sym e); noted = tt }
plain_given s classes kinds.Float n a b c e = record { number = ap (λ m. Some m) (sym e); noted = tt }
plain_given s classes kinds.Long n a b c e = record { number = ap (λ m. Some m) (sym e); noted = tt }
plain_given s classes kinds.Double n a b c e = record { number = ap (λ m. Some m) (sym e); noted = tt }
plain_given s classes kinds.Null n a b c e = record { number = ap (λ m. Some m) (sym e); noted = tt }
plain_given s classes kinds.UninitThis n a b c e = record { number = ap (λ m. Some m) (sym e); noted = tt }
plain_given s classes (kinds.Class x) n a b c e = absurd (a x refl)
plain_given s classes (kinds.Array d x) n a b c e = absurd (b d x refl)
plain_given s classes (kinds.Uninit o) n a b c e = absurd (c o refl)
