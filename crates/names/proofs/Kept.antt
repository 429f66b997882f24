-- The parameters that are kept while a method's descriptor is read.
use Rattle.std.proofs.Common.{◌≡◌, ℕ, zero, suc, ◌<◌, ◌≤◌, Bool, true, false, ◌||◌, List, [], ◌∷◌, ◌++◌, length, Option, Some, None, Result, Ok, Err, refl, sym, ap, ◌∙◌, append_assoc, arith, ne_eqb, inl, inr}
use Rattle.std.specs.Prelude.{map}
use Rattle.std.specs.List.{list_any}
use Rattle.std.proofs.lemmas.Bool.{lt-ltb, le-ltb, or_left, or_right, or_from, cond-true, cond-false, cases_Bool, true≢false}
use Rattle.std.proofs.lemmas.List.{length-append, length_push, length-map, map_push, append-nil}
use Rattle.std.proofs.lemmas.List.Folds.{list_any-append}
use Rattle.names.specs.declared.fault.NameFault.{NameFault}
use Rattle.names.specs.declared.fault.NameFault.TheVariants.{TooManyDimensions}
use Rattle.names.specs.declared.reading.Params.{Params}
use Rattle.names.specs.declared.descriptor.FieldType.{FieldType}
use Rattle.names.specs.declared.descriptor.MethodType.{MethodType}
use Rattle.names.specs.Descriptors.{FieldDescriptor, method_width, field_types, result_types, left_parenthesis, right_parenthesis, void_letter}
use Rattle.names.proofs.Written.{many_are_wide}
use Rattle.names.specs.Types.{type_of}
use Rattle.names.specs.ReadTypes.{Keeps, KeepsTypes, IsLimited, IsFitting}
use Rattle.names.specs.Reading.{Reading, found, outside, mapped, followed, is_deep, read_field, read_params, read_result, read_method, method_type, limited_method}
use Rattle.names.proofs.FieldReader.{field_reader, field_nothing}
use Rattle.names.proofs.MethodReader.{params_done, params_step, params_stop, params_nothing, some_letters, result_void, result_type, result_nothing, same_outside, method_begun, method_outside, method_nothing, result_stops, params_sound}

-- ---- one parameter more

deep_more : (types : List FieldDescriptor) (t : FieldDescriptor) → list_any is_deep (types ++ t ∷ []) ≡ (list_any is_deep types || (is_deep t || false))
deep_more types t = list_any-append is_deep types (t ∷ [])

or_no : (a b : Bool) → b ≡ false → (a || (b || false)) ≡ a
or_no true b h = refl
or_no false b h = rw h refl

still : (types : List FieldDescriptor) (t : FieldDescriptor) (deep : Bool) → is_deep t ≡ false → deep ≡ list_any is_deep types → deep ≡ list_any is_deep (types ++ t ∷ [])
still types t deep h e = e ∙ sym (or_no (list_any is_deep types) (is_deep t) h) ∙ sym (deep_more types t)

pub keeps_deep : (kept : List FieldType) (deep wide : Bool) (types : List FieldDescriptor) (t : FieldDescriptor) → is_deep t ≡ true → Keeps kept deep wide types → Keeps kept true wide (types ++ t ∷ [])
keeps_deep kept deep wide types t h k =
    record {
      is_deep_known = sym (deep_more types t ∙ or_right (list_any is_deep types) (is_deep t || false) (or_left (is_deep t) false h));
      few = k.few;
      all = λ d w. absurd (true≢false d);
      many = λ d w. absurd (true≢false d);
    }

pub keeps_wide : (kept : List FieldType) (deep wide : Bool) (types : List FieldDescriptor) (t : FieldDescriptor) → is_deep t ≡ false → 255 ≤ length kept → Keeps kept deep wide types → Keeps kept deep true (types ++ t ∷ [])
keeps_wide kept deep wide types t h full k =
    record {
      is_deep_known = still types t deep h k.is_deep_known;
      few = k.few;
      all = λ d w. absurd (true≢false w);
      many = λ d w. elim (cases_Bool wide) [
        | inl before ↦ (let many = k.many d before in omega (arith, length_push types t))
        | inr first ↦ (let all = k.all d first in omega (arith, length_push types t, length-map kept type_of, ap length all))
      ];
    }

pub keeps_more : (kept more : List FieldType) (deep wide : Bool) (types : List FieldDescriptor) (f : FieldType) (t : FieldDescriptor) → is_deep t ≡ false → type_of f ≡ t → more ≡ kept ++ f ∷ [] → length kept < 255
    → Keeps kept deep wide types → Keeps more deep wide (types ++ t ∷ [])
keeps_more kept more deep wide types f t h same e less k =
    record {
      is_deep_known = still types t deep h k.is_deep_known;
      few = omega (arith, ap length e, length_push kept f);
      all = λ d w. ap (map type_of) e ∙ map_push type_of kept f ∙ ap (λ (x : FieldDescriptor). map type_of kept ++ x ∷ []) same ∙ ap (λ (x : List FieldDescriptor). x ++ t ∷ []) (k.all d w);
      many = λ d w. (let many = k.many d w in omega (arith, length_push types t));
    }

-- ---- limits

pub too_many_types : (types : List FieldDescriptor) (o : Option FieldDescriptor) (receiver : Bool) → 255 < length types → 255 < method_width (method_type types o) receiver
too_many_types types o receiver h = omega (arith, many_are_wide types)

deep_types : (types : List FieldDescriptor) (o : Option FieldDescriptor) → list_any is_deep (field_types (method_type types o)) ≡ (list_any is_deep types || list_any is_deep (result_types o))
deep_types types o = list_any-append is_deep types (result_types o)

pub limited_by_result : (receiver : Bool) (types : List FieldDescriptor) (t : FieldDescriptor) → is_deep t ≡ true → limited_method receiver (Ok (method_type types (Some t))) ≡ Err TooManyDimensions
limited_by_result receiver types t h =
    cond-true (list_any is_deep (field_types (method_type types (Some t)))) _ _ (deep_types types (Some t) ∙ or_right (list_any is_deep types) (is_deep t || false) (or_left (is_deep t) false h))

pub limited_by_width : (receiver : Bool) (types : List FieldDescriptor) (o : Option FieldDescriptor) (r : Result MethodType NameFault) → list_any is_deep types ≡ false → list_any is_deep (result_types o) ≡ false
    → IsFitting receiver (method_type types o) r → IsLimited receiver (method_type types o) r
limited_by_width receiver types o (Ok v) h k fit =
    cond-false (list_any is_deep (field_types (method_type types o))) _ _ (deep_types types o ∙ or_from (list_any is_deep types) (list_any is_deep (result_types o)) h k)
    ∙ cond-false _ _ _ (le-ltb 255 (method_width (method_type types o) receiver) fit.1)
    ∙ ap Ok (sym fit.0)
limited_by_width receiver types o (Err e) h k fit =
    cond-false (list_any is_deep (field_types (method_type types o))) _ _ (deep_types types o ∙ or_from (list_any is_deep types) (list_any is_deep (result_types o)) h k)
    ∙ cond-true _ _ _ (lt-ltb 255 (method_width (method_type types o) receiver) fit.1)
    ∙ ap Err (sym fit.0)

pub shallow_result : (t : FieldDescriptor) → is_deep t ≡ false → list_any is_deep (result_types (Some t)) ≡ false
shallow_result t h = or_from (is_deep t) false h refl

-- ---- the loop over parameters

-- these types were read, and so many bytes at most are read after them
pub record SoFar (bytes rest : List ℕ) (types : List FieldDescriptor) : Type 0 where
  pub room : ℕ
  pub enough : length rest ≤ room
  pub reads : read_params (length bytes) bytes ≡ mapped (λ others. types ++ others) (read_params room rest)

plainly : (r : Reading (List FieldDescriptor)) → r ≡ mapped (λ others. others) r
plainly (found types rest) = refl
plainly (outside rest) = refl

pub at_first : (bytes : List ℕ) → SoFar bytes bytes []
at_first bytes = record { room = length bytes; enough = omega arith; reads = plainly (read_params (length bytes) bytes) }

one_more : (types : List FieldDescriptor) (t : FieldDescriptor) (r : Reading (List FieldDescriptor)) → mapped (λ others. types ++ others) (mapped (λ others. t ∷ others) r) ≡ mapped (λ others. (types ++ t ∷ []) ++ others) r
one_more types t (found others rest) = ap (λ (x : List FieldDescriptor). found x rest) (sym (append_assoc types (t ∷ []) others))
one_more types t (outside rest) = refl

pub field_shorter : (rest after : List ℕ) (t : FieldDescriptor) → read_field rest ≡ found t after → length after < length rest
field_shorter rest after t e =
    let s = field_reader.sound rest after t e in
    omega (arith, ap length s.parts, length-append s.front after, ap length s.spells.spelled, some_letters t)

pub stop_shorter : (rest stop : List ℕ) → read_field rest ≡ outside stop → length stop ≤ length rest
stop_shorter rest stop e = let s = field_reader.stops rest stop e in omega (arith, ap length s.parts, length-append s.front stop)

pub one_type_more : (bytes rest after : List ℕ) (types : List FieldDescriptor) (t : FieldDescriptor) → SoFar bytes rest types → read_field rest ≡ found t after → SoFar bytes after (types ++ t ∷ [])
one_type_more bytes rest after types t s e = by_room s.room s.enough s.reads
  where
    by_room : (room : ℕ) → length rest ≤ room → read_params (length bytes) bytes ≡ mapped (λ others. types ++ others) (read_params room rest) → SoFar bytes after (types ++ t ∷ [])
    by_room zero enough reads = absurd (omega (arith, enough, field_shorter rest after t e))
    by_room (suc n) enough reads =
        record {
          room = n;
          enough = omega (arith, enough, field_shorter rest after t e);
          reads = reads ∙ ap (mapped (λ others. types ++ others)) (params_step n rest t after e) ∙ one_more types t (read_params n after);
        }

pub params_end : (bytes rest after : List ℕ) (types : List FieldDescriptor) → SoFar bytes rest types → rest ≡ right_parenthesis ∷ after → read_params (length bytes) bytes ≡ found types after
params_end bytes rest after types s is = by_room s.room s.enough s.reads
  where
    by_room : (room : ℕ) → length rest ≤ room → read_params (length bytes) bytes ≡ mapped (λ others. types ++ others) (read_params room rest) → read_params (length bytes) bytes ≡ found types after
    by_room zero enough reads = absurd (omega (arith, enough, ap length is))
    by_room (suc n) enough reads =
        reads
        ∙ ap (λ (x : List ℕ). mapped (λ others. types ++ others) (read_params (suc n) x)) is
        ∙ ap (mapped (λ others. types ++ others)) (params_done n right_parenthesis after refl)
        ∙ ap (λ (x : List FieldDescriptor). found x after) (append-nil types)

no_end : (n : ℕ) (rest stop : List ℕ) → ((after : List ℕ) → rest ≡ right_parenthesis ∷ after → ⊥) → length rest ≤ n → read_field rest ≡ outside stop → read_params n rest ≡ outside stop
no_end n [] stop other le e = params_nothing n ∙ ap outside (same_outside {A = FieldDescriptor} [] stop (sym field_nothing ∙ e))
no_end zero (b ∷ rest) stop other le e = absurd (omega arith)
no_end (suc n) (b ∷ rest) stop other le e =
    params_stop n b rest stop (ne_eqb b right_parenthesis (λ is. other rest (ap (λ (x : ℕ). x ∷ rest) is))) e

pub params_fail : (bytes rest stop : List ℕ) (types : List FieldDescriptor) → SoFar bytes rest types → ((after : List ℕ) → rest ≡ right_parenthesis ∷ after → ⊥) → read_field rest ≡ outside stop → read_params (length bytes) bytes ≡ outside stop
params_fail bytes rest stop types s other e = s.reads ∙ ap (mapped (λ others. types ++ others)) (no_end s.room rest stop other s.enough e)

-- ---- what holds before each parameter

pub record InParams (bytes : List ℕ) (params : Params) (rest : List ℕ) : Type 0 where
  pub types : List FieldDescriptor
  pub keeps : KeepsTypes params types
  pub so_far : SoFar bytes rest types
  pub within : length rest ≤ length bytes

-- ---- results

pub result_is_void : (bytes rest : List ℕ) → bytes ≡ void_letter ∷ rest → read_result bytes ≡ found None rest
result_is_void bytes rest is = ap read_result is ∙ result_void void_letter rest refl

pub result_is_outside : (bytes stop : List ℕ) → ((rest : List ℕ) → bytes ≡ void_letter ∷ rest → ⊥) → read_field bytes ≡ outside stop → read_result bytes ≡ outside stop
result_is_outside [] stop other e = result_nothing ∙ ap outside (same_outside {A = FieldDescriptor} [] stop (sym field_nothing ∙ e))
result_is_outside (b ∷ bytes) stop other e = result_type b bytes (ne_eqb b void_letter (λ is. other bytes (ap (λ (x : ℕ). x ∷ bytes) is))) ∙ ap (mapped Some) e

-- ---- whole descriptors of methods

method_begins : (bytes inside : List ℕ) → bytes ≡ left_parenthesis ∷ inside → read_method bytes ≡ followed (read_params (length inside) inside) (λ params rest. mapped (method_type params) (read_result rest))
method_begins bytes inside is = ap read_method is ∙ method_begun left_parenthesis inside refl

pub method_is_read : (bytes inside rest after : List ℕ) (types : List FieldDescriptor) (o : Option FieldDescriptor) → bytes ≡ left_parenthesis ∷ inside → read_params (length inside) inside ≡ found types rest → read_result rest ≡ found o after
    → read_method bytes ≡ found (method_type types o) after
method_is_read bytes inside rest after types o is first second =
    method_begins bytes inside is ∙ ap (λ (r : Reading (List FieldDescriptor)). followed r (λ params rest. mapped (method_type params) (read_result rest))) first ∙ ap (mapped (method_type types)) second

pub stop_in_params : (bytes inside stop : List ℕ) → bytes ≡ left_parenthesis ∷ inside → read_params (length inside) inside ≡ outside stop → read_method bytes ≡ outside stop
stop_in_params bytes inside stop is first = method_begins bytes inside is ∙ ap (λ (r : Reading (List FieldDescriptor)). followed r (λ params rest. mapped (method_type params) (read_result rest))) first

pub stop_in_result : (bytes inside rest stop : List ℕ) (types : List FieldDescriptor) → bytes ≡ left_parenthesis ∷ inside → read_params (length inside) inside ≡ found types rest → read_result rest ≡ outside stop → read_method bytes ≡ outside stop
stop_in_result bytes inside rest stop types is first second =
    method_begins bytes inside is ∙ ap (λ (r : Reading (List FieldDescriptor)). followed r (λ params rest. mapped (method_type params) (read_result rest))) first ∙ ap (mapped (method_type types)) second

pub no_method_begins : (bytes : List ℕ) → ((inside : List ℕ) → bytes ≡ left_parenthesis ∷ inside → ⊥) → read_method bytes ≡ outside bytes
no_method_begins [] other = method_nothing
no_method_begins (b ∷ bytes) other = method_outside b bytes (ne_eqb b left_parenthesis (λ is. other bytes (ap (λ (x : ℕ). x ∷ bytes) is)))

-- what is left where a result stops was left of the whole
pub result_stop_shorter : (rest stop : List ℕ) → read_result rest ≡ outside stop → length stop ≤ length rest
result_stop_shorter rest stop e = let s = result_stops rest stop e in omega (arith, ap length s.parts, length-append s.front stop)

pub params_shorter : (inside rest : List ℕ) (types : List FieldDescriptor) → read_params (length inside) inside ≡ found types rest → length rest ≤ length inside
params_shorter inside rest types e = let s = params_sound (length inside) inside rest types e in omega (arith, ap length s.parts, length-append s.front rest)
