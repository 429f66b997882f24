-- The result that is read after parameters of which none is kept.
use Rattle.std.proofs.Common.{◌≡◌, ℕ, Bool, true, false, cond, List, [], ◌∷◌, length, Option, Some, None, Result, Ok, Err, refl, sym, ap, ◌∙◌}
use Rattle.std.specs.Prelude.{◌≤◌, ◌<◌, IfSome, IfOk, IfErr}
use Rattle.std.specs.Result.{result_ok}
use Rattle.std.specs.Option.{option_map}
use Rattle.std.specs.List.{list_any}
use Rattle.std.proofs.lemmas.Bool.{cond-true, cond-false, or_parts}
use Rattle.std.proofs.lemmas.List.{nil_from_length}
use Rattle.std.proofs.lemmas.List.Folds.{list_any-append}
use Rattle.names.specs.declared.fault.NameFault.{NameFault}
use Rattle.names.specs.declared.fault.NameFault.TheVariants.{TooManyDimensions}
use Rattle.names.specs.declared.descriptor.FieldType.{FieldType}
use Rattle.names.specs.declared.reading.FieldRead.{FieldRead}
use Rattle.names.specs.Descriptors.{FieldDescriptor, MethodDescriptor, SpellsMethod, AreWithinDimensions, result_types}
use Rattle.names.specs.Types.{type_of}
use Rattle.names.specs.ReadTypes.{type_read}
use Rattle.names.specs.Reading.{Reading, found, outside, whole, is_deep, read_method, method_answer, within_dimensions, result_in, result_answer}
use Rattle.names.proofs.Readers.{spelled_is_whole, whole_is_spelled}
use Rattle.names.proofs.Kept.{SoFar}
use Rattle.names.proofs.Judged.{deep_read, shallow_read}
use Rattle.names.proofs.AnswerLaws.{method_answered, not_deep}
use Rattle.names.proofs.MethodReader.{method_reader}

-- what holds before each parameter
pub record BehindTypes (bytes rest : List ℕ) : Type 0 where
  pub types : List FieldDescriptor
  pub so_far : SoFar bytes rest types

-- ---- what is returned

pub answer_outside : (bytes stop : List ℕ) → read_method bytes ≡ outside stop → result_answer bytes ≡ None
unfolding result_answer
answer_outside bytes stop e = ap (λ (r : Reading MethodDescriptor). result_in (whole bytes r)) e

pub answer_over : (bytes rest : List ℕ) (m : MethodDescriptor) → read_method bytes ≡ found m rest → (length rest ≡ 0 → ⊥)
    → result_answer bytes ≡ None
unfolding result_answer
answer_over bytes rest m e some = ap (λ (r : Reading MethodDescriptor). result_in (whole bytes r)) e ∙ none rest some
  where
    none : (rest : List ℕ) → (length rest ≡ 0 → ⊥) → result_in (whole bytes (found m rest)) ≡ None
    none [] some = absurd (some refl)
    none (b ∷ rest) some = refl

pub answer_within : (bytes rest : List ℕ) (m : MethodDescriptor) → read_method bytes ≡ found m rest → length rest ≡ 0
    → result_answer bytes ≡ within_dimensions m.result
unfolding result_answer
answer_within bytes rest m e none =
    ap (λ (r : Reading MethodDescriptor). result_in (whole bytes r)) e
    ∙ ap (λ (x : List ℕ). result_in (whole bytes (found m x))) (nil_from_length rest none)

-- a type that is within its limit or told to be over it
pub limited_is : (f : FieldRead) (r : Result FieldType NameFault) → IfOk r (λ t. (type_of t ≡ type_read f) × (f.dims ≤ 255))
    → IfErr r (λ e. (e ≡ TooManyDimensions) × (255 < f.dims))
    → option_map type_of (result_ok r) ≡ within_dimensions (Some (type_read f))
limited_is f (Ok t) fits deep = ap Some fits.0 ∙ sym (cond-false (is_deep (type_read f)) _ _ (shallow_read f fits.1))
limited_is f (Err e) fits deep = sym (cond-true (is_deep (type_read f)) _ _ (deep_read f deep.1))

-- ---- what the answer means

within : (o : Option FieldDescriptor) → list_any is_deep (result_types o) ≡ false → within_dimensions o ≡ o
within None h = refl
within (Some t) h = cond-false (is_deep t) _ _ (or_parts (is_deep t) false h).0

pub result_is : (bytes : List ℕ) (m : MethodDescriptor) → SpellsMethod bytes m → AreWithinDimensions m → result_answer bytes ≡ m.result
unfolding result_answer
result_is bytes m s w =
    let shallow =
    or_parts (list_any is_deep m.params) (list_any is_deep (result_types m.result))
    (sym (list_any-append is_deep m.params (result_types m.result)) ∙ not_deep m w) in
    ap result_in (spelled_is_whole read_method SpellsMethod method_reader bytes m s) ∙ within m.result shallow.1

pub result_of_answer : (receiver : Bool) (bytes : List ℕ) (m : MethodDescriptor) → method_answer receiver bytes ≡ Ok m
    → result_answer bytes ≡ m.result
result_of_answer receiver bytes m e = let p = method_answered receiver bytes m e in result_is bytes m p.0 p.1

abbrev Names : List ℕ → FieldDescriptor → Type 0
Names bytes t = (m : MethodDescriptor) × SpellsMethod bytes m × (m.result ≡ Some t)

names_result : (bytes : List ℕ) (t : FieldDescriptor) → result_answer bytes ≡ Some t → Names bytes t
unfolding result_answer
names_result bytes t e = by_answer (whole bytes (read_method bytes)) refl e
  where
    same : (o : Option FieldDescriptor) → within_dimensions o ≡ Some t → o ≡ Some t
    same None e = e
    same (Some u) e = by_depth (is_deep u) refl e
      where
        by_depth : (b : Bool) → is_deep u ≡ b → cond b None (Some u) ≡ Some t → Some u ≡ Some t
        by_depth true h e = absurd cc
        by_depth false h e = e

    by_answer : (r : Result MethodDescriptor NameFault) → whole bytes (read_method bytes) ≡ r → result_in r ≡ Some t → Names bytes t
    by_answer (Err f) was e = absurd cc
    by_answer (Ok m) was e = (m, whole_is_spelled read_method SpellsMethod method_reader bytes m was, same m.result e)

pub only_named : (bytes : List ℕ) (o : Option FieldType) → option_map type_of o ≡ result_answer bytes
    → IfSome o (λ t. (m : MethodDescriptor) × SpellsMethod bytes m × (m.result ≡ Some (type_of t)))
only_named bytes None e = tt
only_named bytes (Some t) e = names_result bytes (type_of t) (sym e)
