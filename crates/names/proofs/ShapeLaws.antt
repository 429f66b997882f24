-- The shape of a method's types, found while they are read.
use Rattle.std.proofs.Common.{◌≡◌, ℕ, nat_lt, nat_le, ◌+◌, ◌<◌, ◌≤◌, Bool, true, false, ◌||◌, cond, List, [], ◌∷◌, ◌++◌, length, Option, Some, None, Result, Ok, Err, refl, sym, ap, ◌∙◌, arith}
use mir.Val.{bool_byte}
use Rattle.std.specs.Prelude.{sum_by}
use Rattle.std.specs.List.{list_any}
use Rattle.std.specs.Option.{option_map, is_some}
use Rattle.std.proofs.lemmas.Bool.{lt-ltb, le-ltb, leb-true, leb-false, cond-true, cond-false, or_from, true≢false}
use Rattle.std.proofs.lemmas.List.{length-append}
use Rattle.std.proofs.lemmas.List.Folds.{list_any-append}
use Rattle.std.proofs.lemmas.List.Sums.{sum_by_push}
use Rattle.names.specs.declared.fault.NameFault.{NameFault}
use Rattle.names.specs.declared.fault.NameFault.TheVariants.{TooManyDimensions, TooWide}
use Rattle.names.specs.declared.reading.FieldRead.{FieldRead}
use Rattle.names.specs.ReadTypes.{type_read}
use Rattle.names.specs.declared.shape.MethodShape.{MethodShape}
use Rattle.names.specs.declared.shape.Measured.{Measured}
use Rattle.names.specs.Descriptors.{FieldDescriptor, MethodDescriptor, field_width, field_types, result_types, method_width}
use Rattle.names.specs.Reading.{found, outside, is_deep, read_method, method_type, limited_method}
use Rattle.names.specs.Shapes.{IsShapeOf, IsShapeAnswer, Sums, IsShapeWithin}
use Rattle.names.proofs.Kept.{SoFar}
use Rattle.names.proofs.Judged.{method_answer_limited}
use Rattle.names.proofs.MethodReader.{method_reader}
use Rattle.names.proofs.Written.{width_at_most_two, dimensions_of_dimensioned}

-- ---- one parameter more

pub no_sums : Sums (record { units = 0; deep = false }) []
no_sums = record { deep = refl; small = omega arith; exact = λ h. refl; wide = λ h. absurd (omega (arith, h)) }

any_push : (types : List FieldDescriptor) (t : FieldDescriptor) → list_any is_deep (types ++ t ∷ []) ≡ (list_any is_deep types || is_deep t)
any_push types t = list_any-append is_deep types (t ∷ []) ∙ ap (λ (b : Bool). list_any is_deep types || b) (plain (is_deep t))
  where
    plain : (b : Bool) → (b || false) ≡ b
    plain true = refl
    plain false = refl

pub counted_more : (m : Measured) (types : List FieldDescriptor) (t : FieldDescriptor) → m.units ≤ 255 → Sums m types
    → Sums (record { units = m.units + field_width t; deep = m.deep || is_deep t }) (types ++ t ∷ [])
counted_more m types t le s =
    let two = width_at_most_two t in
    let push = sum_by_push field_width types t in
    let exact = s.exact le in
    record {
      deep = ap (λ (b : Bool). b || is_deep t) s.deep ∙ sym (any_push types t);
      small = omega (arith, le, two);
      exact = λ h. omega (arith, push, exact);
      wide = λ h. omega (arith, h, push, exact);
    }

pub wide_more : (m : Measured) (types : List FieldDescriptor) (t : FieldDescriptor) → 255 < m.units → Sums m types
    → Sums (record { units = m.units; deep = m.deep || is_deep t }) (types ++ t ∷ [])
wide_more m types t over s =
    let push = sum_by_push field_width types t in
    let wide = s.wide over in
    record {
      deep = ap (λ (b : Bool). b || is_deep t) s.deep ∙ sym (any_push types t);
      small = s.small;
      exact = λ h. absurd (omega (arith, h, over));
      wide = λ h. omega (arith, push, wide);
    }

pub deep_is : (f : FieldRead) → is_deep (type_read f) ≡ nat_lt 255 f.dims
deep_is f = ap (nat_lt 255) (dimensions_of_dimensioned f.dims f.base)

pub deep_result : (o : Option FieldRead) (f : FieldRead) → o ≡ Some f → nat_lt 255 f.dims ≡ list_any is_deep (result_types (option_map type_read o))
deep_result o f is =
    sym (deep_is f) ∙ sym (plain (is_deep (type_read f))) ∙ ap (λ (x : Option FieldRead). list_any is_deep (result_types (option_map type_read x))) (sym is)
  where
    plain : (b : Bool) → (b || false) ≡ b
    plain true = refl
    plain false = refl

-- what holds before each parameter
pub record Measuring (bytes rest : List ℕ) (m : Measured) : Type 0 where
  pub types : List FieldDescriptor
  pub sums : Sums m types
  pub so_far : SoFar bytes rest types

-- ---- limits

abbrev any_deep : List FieldDescriptor → Option FieldDescriptor → Bool
any_deep types o = list_any is_deep (field_types (method_type types o))

deep_types : (types : List FieldDescriptor) (o : Option FieldDescriptor) → any_deep types o ≡ (list_any is_deep types || list_any is_deep (result_types o))
deep_types types o = list_any-append is_deep types (result_types o)

pub too_deep : (receiver : Bool) (m : Measured) (types : List FieldDescriptor) (o : Option FieldDescriptor) → Sums m types → (m.deep || list_any is_deep (result_types o)) ≡ true
    → limited_method receiver (Ok (method_type types o)) ≡ Err TooManyDimensions
too_deep receiver m types o s h =
    cond-true (any_deep types o) _ _ (deep_types types o ∙ ap (λ (b : Bool). b || list_any is_deep (result_types o)) (sym s.deep) ∙ h)

pub too_wide : (receiver : Bool) (m : Measured) (types : List FieldDescriptor) (o : Option FieldDescriptor) → Sums m types → m.deep ≡ false → list_any is_deep (result_types o) ≡ false
    → 255 < m.units + cond receiver 1 0 → limited_method receiver (Ok (method_type types o)) ≡ Err TooWide
too_wide receiver m types o s h k over =
    cond-false (any_deep types o) _ _ (deep_types types o ∙ or_from (list_any is_deep types) (list_any is_deep (result_types o)) (sym s.deep ∙ h) k)
    ∙ cond-true _ _ _ (lt-ltb 255 (method_width (method_type types o) receiver) wide)
  where
    wide : 255 < sum_by field_width types + cond receiver 1 0
    wide = by_count (nat_le m.units 255) refl
      where
        by_count : (b : Bool) → nat_le m.units 255 ≡ b → 255 < sum_by field_width types + cond receiver 1 0
        by_count true e = let exact = s.exact (leb-true m.units 255 e) in omega (arith, exact, over)
        by_count false e = let more = s.wide (leb-false m.units 255 e) in omega (arith, more)

pub has_shape : (receiver : Bool) (m : Measured) (types : List FieldDescriptor) (o : Option FieldDescriptor) (s : MethodShape) → Sums m types → m.deep ≡ false → list_any is_deep (result_types o) ≡ false
    → s.units ≡ m.units + cond receiver 1 0 → s.units ≤ 255 → s.has_result ≡ is_some o
    → (limited_method receiver (Ok (method_type types o)) ≡ Ok (method_type types o)) × IsShapeOf receiver (method_type types o) s
has_shape receiver m types o s sums h k units within has_result =
    let exact = sums.exact (omega (arith, units, within)) in
    let width : s.units ≡ method_width (method_type types o) receiver = omega (arith, units, exact) in (
      cond-false (any_deep types o) _ _ (deep_types types o ∙ or_from (list_any is_deep types) (list_any is_deep (result_types o)) (sym sums.deep ∙ h) k)
          ∙ cond-false _ _ _ (le-ltb 255 (method_width (method_type types o) receiver) (omega (arith, width, within))),
      record { units = width; has_result = has_result },
    )

pub judged_shape : (receiver : Bool) (bytes rest : List ℕ) (m : MethodDescriptor) (r : Result MethodShape NameFault) → read_method bytes ≡ found m rest → length rest ≡ 0 → IsShapeWithin receiver m r → IsShapeAnswer receiver bytes r
judged_shape receiver bytes rest m (Ok s) e none h = record { type = m; named = method_answer_limited receiver bytes rest m e none ∙ h.0; shape = h.1 }
judged_shape receiver bytes rest m (Err d) e none h = method_answer_limited receiver bytes rest m e none ∙ h

pub method_stop_within : (bytes rest : List ℕ) → read_method bytes ≡ outside rest → length rest ≤ length bytes
method_stop_within bytes rest e = let s = method_reader.stops bytes rest e in omega (arith, ap length s.parts, length-append s.front rest)

pub units_of_receiver : (receiver : Bool) → bool_byte receiver ≡ cond receiver 1 0
units_of_receiver true = refl
units_of_receiver false = refl

pub no_deep : (a b : Bool) → (a || b) ≡ false → (a ≡ false) × (b ≡ false)
no_deep true b h = absurd (true≢false h)
no_deep false b h = (refl, h)

pub same_some : (o : Option FieldRead) → is_some o ≡ is_some (option_map type_read o)
same_some None = refl
same_some (Some f) = refl
