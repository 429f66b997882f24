-- The parameters that are left of a descriptor: the first of them, and all of a whole one.
use Rattle.std.proofs.Common.{◌≡◌, ℕ, zero, suc, ◌≤◌, Bool, true, false, List, [], ◌∷◌, ◌++◌, length, refl, sym, ap, ◌∙◌, append_assoc, arith}
use Rattle.std.specs.List.{flat_map, AllByRecursion, list_any}
use Rattle.std.proofs.lemmas.Bool.{cond-true, cond-false, or_parts}
use Rattle.std.proofs.lemmas.List.Folds.{list_any-append}
use Rattle.names.specs.Descriptors.{FieldDescriptor, MethodDescriptor, field_spelling, result_spelling, result_types, right_parenthesis, IsWellNamed, SpellsMethod, AreWithinDimensions}
use Rattle.names.specs.Reading.{Reading, found, outside, is_deep, read_field, read_base}
use Rattle.names.specs.Parameters.{types_at, type_and}
use Rattle.names.proofs.AnswerLaws.{not_deep}
use Rattle.names.proofs.FieldReader.{field_reader, field_nothing}
use Rattle.names.proofs.Kept.{field_shorter}

from_reading : (n : ℕ) (r s : Reading FieldDescriptor) → r ≡ s → type_and r (types_at n) ≡ type_and s (types_at n)
from_reading n r s e = ap (λ (x : Reading FieldDescriptor). type_and x (types_at n)) e

pub first_type : (n : ℕ) (bytes rest : List ℕ) (t : FieldDescriptor) → read_field bytes ≡ found t rest → is_deep t ≡ false → types_at (suc n) bytes ≡ t ∷ types_at n rest
unfolding types_at
first_type n bytes rest t e shallow = from_reading n (read_field bytes) (found t rest) e ∙ cond-false (is_deep t) _ _ shallow

pub deep_type : (n : ℕ) (bytes rest : List ℕ) (t : FieldDescriptor) → read_field bytes ≡ found t rest → is_deep t ≡ true → types_at n bytes ≡ []
unfolding types_at
deep_type zero bytes rest t e deep = refl
deep_type (suc n) bytes rest t e deep = from_reading n (read_field bytes) (found t rest) e ∙ cond-true (is_deep t) _ _ deep

pub no_type : (n : ℕ) (bytes rest : List ℕ) → read_field bytes ≡ outside rest → types_at n bytes ≡ []
unfolding types_at
no_type zero bytes rest e = refl
no_type (suc n) bytes rest e = from_reading n (read_field bytes) (outside rest) e

-- of bytes that are no more than so many, all are found
pub enough : (n m : ℕ) (bytes : List ℕ) → length bytes ≤ n → length bytes ≤ m → types_at n bytes ≡ types_at m bytes
enough zero m [] le me = no_type zero [] [] field_nothing ∙ sym (no_type m [] [] field_nothing)
enough (suc n) zero [] le me = no_type (suc n) [] [] field_nothing ∙ sym (no_type zero [] [] field_nothing)
enough zero m (b ∷ bytes) le me = absurd (omega (arith, le))
enough (suc n) zero (b ∷ bytes) le me = absurd (omega (arith, me))
enough (suc n) (suc m) bytes le me = by_reading (λ rest. enough n m rest) (read_field bytes) refl
  where
    by_deep : (t : FieldDescriptor) (rest : List ℕ) (d : Bool) → read_field bytes ≡ found t rest → is_deep t ≡ d → types_at n rest ≡ types_at m rest → types_at (suc n) bytes ≡ types_at (suc m) bytes
    by_deep t rest true e deep same = deep_type (suc n) bytes rest t e deep ∙ sym (deep_type (suc m) bytes rest t e deep)
    by_deep t rest false e deep same = first_type n bytes rest t e deep ∙ ap (λ (ts : List FieldDescriptor). t ∷ ts) same ∙ sym (first_type m bytes rest t e deep)

    by_reading : ((rest : List ℕ) → length rest ≤ n → length rest ≤ m → types_at n rest ≡ types_at m rest) → (r : Reading FieldDescriptor) → read_field bytes ≡ r → types_at (suc n) bytes ≡ types_at (suc m) bytes
    by_reading others (outside rest) e = no_type (suc n) bytes rest e ∙ sym (no_type (suc m) bytes rest e)
    by_reading others (found t rest) e =
        let less = field_shorter bytes rest t e in
        by_deep t rest (is_deep t) e refl (others rest (omega (arith, le, less)) (omega (arith, me, less)))

pub taken : (bytes rest : List ℕ) (t : FieldDescriptor) → read_field bytes ≡ found t rest → is_deep t ≡ false → types_at (length bytes) bytes ≡ t ∷ types_at (length rest) rest
taken bytes rest t e d =
    let less = field_shorter bytes rest t e in
    enough (length bytes) (suc (length bytes)) bytes (omega arith) (omega arith) ∙ first_type (length bytes) bytes rest t e d
    ∙ ap (λ (ts : List FieldDescriptor). t ∷ ts) (enough (length bytes) (length rest) rest (omega (arith, less)) (omega arith))

-- ---- a whole descriptor

at_the_end : (bytes : List ℕ) → read_field (right_parenthesis ∷ bytes) ≡ outside (right_parenthesis ∷ bytes)
unfolding read_field read_base
at_the_end bytes = refl

pub all_types : (types : List FieldDescriptor) (more : List ℕ) → AllByRecursion IsWellNamed types → list_any is_deep types ≡ false
    → let bytes = flat_map field_spelling types ++ right_parenthesis ∷ more in types_at (length bytes) bytes ≡ types
all_types [] more named shallow = no_type _ _ _ (at_the_end more)
all_types (t ∷ types) more named shallow =
    let rest = flat_map field_spelling types ++ right_parenthesis ∷ more in
    let parts : (flat_map field_spelling (t ∷ types) ++ right_parenthesis ∷ more) ≡ (field_spelling t ++ rest) = append_assoc (field_spelling t) (flat_map field_spelling types) (right_parenthesis ∷ more) in
    let d = or_parts (is_deep t) (list_any is_deep types) shallow in
    let read = field_reader.complete (field_spelling t) rest t (record { named = named.0; spelled = refl }) in
    ap (λ (bs : List ℕ). types_at (length bs) bs) parts ∙ taken (field_spelling t ++ rest) rest t read d.0 ∙ ap (λ (ts : List FieldDescriptor). t ∷ ts) (all_types types more named.1 d.1)

-- those after the '(' of a descriptor
pub all_parameters : (bytes inside : List ℕ) (first : ℕ) (m : MethodDescriptor) → bytes ≡ first ∷ inside → SpellsMethod bytes m → AreWithinDimensions m → types_at (length inside) inside ≡ m.params
all_parameters bytes inside first m is s w =
    let shallow =
    or_parts (list_any is_deep m.params) (list_any is_deep (result_types m.result))
    (sym (list_any-append is_deep m.params (result_types m.result)) ∙ not_deep m w) in
    let behind : inside ≡ flat_map field_spelling m.params ++ right_parenthesis ∷ result_spelling m.result = same_tail first _ inside _ (sym is ∙ s.spelled) in
    ap (λ (bs : List ℕ). types_at (length bs) bs) behind ∙ all_types m.params (result_spelling m.result) s.params_named shallow.0
  where
    same_tail : (a b : ℕ) (x y : List ℕ) → a ∷ x ≡ b ∷ y → x ≡ y
    same_tail a b x y e = cc
