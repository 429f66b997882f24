-- Steps of a program that reads types, in the words that compute.
use Rattle.std.proofs.Common.{◌≡◌, ℕ, suc, ◌+◌, true, eqb, List, [], ◌∷◌, length, drop, Option, Some, None, refl, sym, ap, ◌∙◌, arith, eq-eqb, ne_eqb, inl, inr}
use Rattle.std.specs.Prelude.{◌==◌}
use Rattle.std.specs.List.{prefix_len}
use Rattle.std.proofs.lemmas.Bool.{cases_Bool, cond-true, cond-false}
use Rattle.std.proofs.lemmas.List.{nil_from_length}
use Rattle.names.specs.declared.base.Primitive.{Primitive}
use Rattle.names.specs.Names.{bracket}
use Rattle.names.specs.Descriptors.{FieldDescriptor, primitive, class, array, class_letter, dimensioned}
use Rattle.names.specs.Reading.{Reading, found, outside, mapped, read_class, primitive_of, primitive_before, read_base, read_field}
use Rattle.names.proofs.FieldReader.{base_nothing, base_class, base_letter, field_array, field_base, field_nothing}

pub base_is_class : (bytes rest name after : List ℕ) (b : ℕ) → bytes ≡ b ∷ rest → b ≡ class_letter → read_class true rest ≡ found name after → read_base bytes ≡ found (class name) after
base_is_class bytes rest name after b is letter e = ap read_base is ∙ base_class b rest (eq-eqb b class_letter letter) ∙ ap (mapped class) e

pub base_is_no_class : (bytes rest stop : List ℕ) (b : ℕ) → bytes ≡ b ∷ rest → b ≡ class_letter → read_class true rest ≡ outside stop → read_base bytes ≡ outside stop
base_is_no_class bytes rest stop b is letter e = ap read_base is ∙ base_class b rest (eq-eqb b class_letter letter) ∙ ap (mapped class) e

pub base_is_primitive : (bytes rest : List ℕ) (b : ℕ) (p : Primitive) → bytes ≡ b ∷ rest → (b ≡ class_letter → ⊥) → Some p ≡ primitive_of b → read_base bytes ≡ found (primitive p) rest
base_is_primitive bytes rest b p is other e =
    ap read_base is ∙ base_letter b rest (ne_eqb b class_letter other) ∙ ap (λ (o : Option Primitive). primitive_before o b rest) (sym e)

pub base_is_nothing : (bytes rest : List ℕ) (b : ℕ) → bytes ≡ b ∷ rest → (b ≡ class_letter → ⊥) → None ≡ primitive_of b → read_base bytes ≡ outside bytes
base_is_nothing bytes rest b is other e =
    ap read_base is ∙ base_letter b rest (ne_eqb b class_letter other) ∙ ap (λ (o : Option Primitive). primitive_before o b rest) (sym e) ∙ ap outside (sym is)

pub base_is_cut : (bytes : List ℕ) → length bytes ≡ 0 → read_base bytes ≡ outside bytes
base_is_cut bytes none = let is = nil_from_length bytes none in ap read_base is ∙ base_nothing ∙ ap outside (sym is)

-- ---- dimensions

abbrev pub brackets : List ℕ → ℕ
brackets bytes = prefix_len (λ b. b == bracket) bytes

plainly : (r : Reading FieldDescriptor) → r ≡ mapped (dimensioned 0) r
plainly (found t rest) = refl
plainly (outside rest) = refl

one_more : (d : ℕ) (r : Reading FieldDescriptor) → mapped array (mapped (dimensioned d) r) ≡ mapped (dimensioned (suc d)) r
one_more d (found t rest) = refl
one_more d (outside rest) = refl

suc_of : (n : ℕ) → 1 + n ≡ suc n
suc_of n = omega arith

pub field_by_dimensions : (bytes : List ℕ) → read_field bytes ≡ mapped (dimensioned (brackets bytes)) (read_base (drop (brackets bytes) bytes))
field_by_dimensions [] = field_nothing ∙ ap (mapped (dimensioned 0)) (sym base_nothing)
field_by_dimensions (b ∷ bytes) =
    elim (cases_Bool (eqb b bracket)) [
      | inl hit ↦
          let count : brackets (b ∷ bytes) ≡ suc (brackets bytes) = cond-true (eqb b bracket) _ _ hit ∙ suc_of (brackets bytes) in
          rw count
          (field_array b bytes hit
          ∙ ap (mapped array) (field_by_dimensions bytes)
          ∙ one_more (brackets bytes) (read_base (drop (brackets bytes) bytes)))
      | inr miss ↦
          let count : brackets (b ∷ bytes) ≡ 0 = cond-false (eqb b bracket) _ _ miss in
          rw count (field_base b bytes miss ∙ plainly (read_base (b ∷ bytes)))
    ]

pub field_is_read : (bytes rest after : List ℕ) (d : ℕ) (t : FieldDescriptor) → d ≡ brackets bytes → rest ≡ drop d bytes → read_base rest ≡ found t after → read_field bytes ≡ found (dimensioned d t) after
field_is_read bytes rest after d t count is e =
    field_by_dimensions bytes ∙ ap (λ (n : ℕ). mapped (dimensioned n) (read_base (drop n bytes))) (sym count) ∙ ap (mapped (dimensioned d)) (ap read_base (sym is) ∙ e)

pub field_is_not_read : (bytes rest stop : List ℕ) (d : ℕ) → d ≡ brackets bytes → rest ≡ drop d bytes → read_base rest ≡ outside stop → read_field bytes ≡ outside stop
field_is_not_read bytes rest stop d count is e =
    field_by_dimensions bytes ∙ ap (λ (n : ℕ). mapped (dimensioned n) (read_base (drop n bytes))) (sym count) ∙ ap (mapped (dimensioned d)) (ap read_base (sym is) ∙ e)
