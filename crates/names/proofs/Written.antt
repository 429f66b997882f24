-- Types as they are written and measured.
use Rattle.std.proofs.Common.{◌≡◌, ℕ, zero, suc, ◌+◌, ◌<◌, ◌≤◌, List, [], ◌∷◌, ◌++◌, length, get_or, take, refl, sym, ap, ◌∙◌, append_assoc, arith}
use Rattle.std.specs.Prelude.{replicate, map, sum_by}
use Rattle.std.proofs.lemmas.List.{map_more}
use Rattle.std.proofs.lemmas.List.Sums.{sum_by_push, sum_by-cons}
use Rattle.names.specs.Names.{bracket}
use Rattle.names.specs.declared.base.Primitive.TheVariants.{Byte, Char, Double, Float, Int, Long, Short, Boolean}
use Rattle.names.specs.declared.base.Base.{Base}
use Rattle.names.specs.declared.base.Base.TheVariants as bases
use Rattle.names.specs.declared.descriptor.FieldType.{FieldType}
use Rattle.names.specs.Descriptors.{FieldDescriptor, primitive, class, array, base_of, dimensioned, dimensions, field_spelling, field_width}
use Rattle.names.specs.Types.{type_of}

spelling_of_dimensioned : (d : ℕ) (t : FieldDescriptor) → field_spelling (dimensioned d t) ≡ replicate d bracket ++ field_spelling t
spelling_of_dimensioned zero t = refl
spelling_of_dimensioned (suc d) t = ap (λ (x : List ℕ). bracket ∷ x) (spelling_of_dimensioned d t)

-- brackets and then the base are the type's text
pub appended : (old now : List ℕ) (f : FieldType) (t : FieldDescriptor) (d : ℕ) → d ≡ f.dims → base_of f.base ≡ t → now ≡ (old ++ replicate d bracket) ++ field_spelling t → now ≡ old ++ field_spelling (type_of f)
appended old now f t d dims base is =
    is
    ∙ append_assoc old (replicate d bracket) (field_spelling t)
    ∙ ap (λ (x : List ℕ). old ++ x) (sym (spelling_of_dimensioned d t) ∙ ap (λ (n : ℕ). field_spelling (dimensioned n t)) dims ∙ ap (λ (x : FieldDescriptor). field_spelling (dimensioned f.dims x)) (sym base))

pub width_at_most_two : (t : FieldDescriptor) → field_width t ≤ 2
width_at_most_two (primitive Byte) = omega arith
width_at_most_two (primitive Char) = omega arith
width_at_most_two (primitive Double) = omega arith
width_at_most_two (primitive Float) = omega arith
width_at_most_two (primitive Int) = omega arith
width_at_most_two (primitive Long) = omega arith
width_at_most_two (primitive Short) = omega arith
width_at_most_two (primitive Boolean) = omega arith
width_at_most_two (class name) = omega arith
width_at_most_two (array t) = omega arith

pub one_more_width : (xs : List FieldType) (i : ℕ) (d : FieldType) → i < length xs
    → sum_by field_width (map type_of (take (i + 1) xs)) ≡ sum_by field_width (map type_of (take i xs)) + field_width (type_of (get_or xs i d))
one_more_width xs i d lt =
    ap (sum_by field_width) (map_more type_of xs i d lt) ∙ sum_by_push field_width (map type_of (take i xs)) (type_of (get_or xs i d))

-- each parameter takes a unit at least
width_at_least_one : (t : FieldDescriptor) → 0 < field_width t
width_at_least_one (primitive Byte) = omega arith
width_at_least_one (primitive Char) = omega arith
width_at_least_one (primitive Double) = omega arith
width_at_least_one (primitive Float) = omega arith
width_at_least_one (primitive Int) = omega arith
width_at_least_one (primitive Long) = omega arith
width_at_least_one (primitive Short) = omega arith
width_at_least_one (primitive Boolean) = omega arith
width_at_least_one (class name) = omega arith
width_at_least_one (array t) = omega arith

pub many_are_wide : (types : List FieldDescriptor) → length types ≤ sum_by field_width types
many_are_wide [] = omega arith
many_are_wide (t ∷ types) = omega (arith, many_are_wide types, width_at_least_one t, sum_by-cons field_width t types)

dimensions_of_base : (b : Base) → dimensions (base_of b) ≡ 0
dimensions_of_base (bases.Primitive p) = refl
dimensions_of_base (bases.Class name) = refl

pub dimensions_of_dimensioned : (d : ℕ) (b : Base) → dimensions (dimensioned d (base_of b)) ≡ d
dimensions_of_dimensioned zero b = dimensions_of_base b
dimensions_of_dimensioned (suc d) b = omega (arith, dimensions_of_dimensioned d b)
