-- The shape of a method's types, found by the places where they end.
use Rattle.std.proofs.Common.{◌≡◌, ℕ, ◌+◌, ◌*◌, ◌<◌, ◌≤◌, Bool, true, false, ◌||◌, List, [], ◌∷◌, ◌++◌, length, get_or, drop, Some, None, refl, sym, ap, ◌∙◌, arith, cond}
use Rattle.std.specs.Prelude.{sum_by}
use Rattle.std.specs.List.{list_any}
use Rattle.std.proofs.lemmas.Bool.{or_from}
use Rattle.std.proofs.lemmas.List.{drop_more, drop_all}
use Rattle.std.proofs.lemmas.List.Folds.{list_any-append}
use Rattle.std.proofs.lemmas.List.Sums.{sum_by_push}
use Rattle.names.specs.Descriptors.{FieldDescriptor, right_parenthesis, left_parenthesis, void_letter, field_width}
use Rattle.names.specs.Reading.{is_deep, method_type}
use Rattle.names.specs.Shapes.{HasShape, Sums}
use Rattle.names.specs.declared.shape.Measured.{Measured}
use Rattle.names.specs.declared.shape.MethodShape.{MethodShape}
use Rattle.names.specs.private.TypeEnds.{units_of, ReadsType, SeesParams, SeesResult}
use Rattle.names.proofs.Kept.{SoFar, at_first, one_type_more, params_end, result_is_void, method_is_read}
use Rattle.names.proofs.Judged.{method_answer_limited}
use Rattle.names.proofs.MethodReader.{result_by_type}
use Rattle.names.proofs.ShapeLaws.{has_shape}
use Rattle.names.proofs.Written.{width_at_most_two}

-- what holds before each parameter
pub record Seeing (bytes : List ℕ) (at units : ℕ) : Type 0 where
  pub types : List FieldDescriptor
  pub behind : 1 ≤ at
  pub within : at ≤ length bytes
  pub few : units ≤ 2 * at
  pub so_far : SoFar (drop 1 bytes) (drop at bytes) types
  pub shallow : list_any is_deep types ≡ false
  pub width : sum_by field_width types ≡ units

pub first_seen : (bytes : List ℕ) → 1 ≤ length bytes → Seeing bytes 1 0
first_seen bytes some =
    record { types = []; behind = omega arith; within = some; few = omega arith; so_far = at_first (drop 1 bytes); shallow = refl; width = refl }

pub next_seen : (bytes : List ℕ) (at end units first : ℕ) → Seeing bytes at units → at < end → ReadsType bytes at end → first ≡ units_of (get_or bytes at 0) → Seeing bytes end (units + first)
next_seen bytes at end units first i some t is =
    let behind = i.behind in
    let few = i.few in
    let two = width_at_most_two t.type in
    let width = t.width in
    let so_far = i.width in
    record {
      types = i.types ++ t.type ∷ [];
      behind = omega (arith, behind, some);
      within = t.within;
      few = omega (arith, few, two, width, is, some);
      so_far = one_type_more (drop 1 bytes) (drop at bytes) (drop end bytes) i.types t.type i.so_far t.reads;
      shallow = list_any-append is_deep i.types (t.type ∷ []) ∙ or_from (list_any is_deep i.types) (is_deep t.type || false) i.shallow (or_from (is_deep t.type) false t.shallow refl);
      width = omega (arith, sum_by_push field_width i.types t.type, so_far, width, is);
    }

pub all_seen : (bytes : List ℕ) (at units : ℕ) → Seeing bytes at units → at < length bytes → get_or bytes at 0 ≡ right_parenthesis → SeesParams bytes at units
all_seen bytes at units i within is =
    record {
      types = i.types;
      within = within;
      few = i.few;
      reads = params_end (drop 1 bytes) (drop at bytes) (drop (at + 1) bytes) i.types i.so_far (drop_more bytes at 0 within ∙ ap (λ b. b ∷ drop (at + 1) bytes) is);
      shallow = i.shallow;
      width = i.width;
    }

-- ---- results

pub nothing_over : (bytes : List ℕ) (end : ℕ) → end ≡ length bytes → length (drop end bytes) ≡ 0
nothing_over bytes end all = ap length (drop_all end bytes (omega (arith, all)))

pub void_seen : (bytes : List ℕ) (at : ℕ) → at < length bytes → get_or bytes at 0 ≡ void_letter → at + 1 ≡ length bytes → SeesResult bytes at false
void_seen bytes at within is all =
    record {
      type = None;
      rest = drop (at + 1) bytes;
      reads = result_is_void (drop at bytes) (drop (at + 1) bytes) (drop_more bytes at 0 within ∙ ap (λ b. b ∷ drop (at + 1) bytes) is);
      over = nothing_over bytes (at + 1) all;
      shallow = refl;
      is = refl;
    }

pub type_seen : (bytes : List ℕ) (at end : ℕ) → ReadsType bytes at end → end ≡ length bytes → SeesResult bytes at true
type_seen bytes at end t all =
    record {
      type = Some t.type;
      rest = drop end bytes;
      reads = result_by_type (drop at bytes) (drop end bytes) t.type t.reads;
      over = nothing_over bytes end all;
      shallow = or_from (is_deep t.type) false t.shallow refl;
      is = refl;
    }

-- ---- whole descriptors

pub shape_is_seen : (receiver : Bool) (bytes : List ℕ) (end units : ℕ) (has_result : Bool) (s : MethodShape) → bytes ≡ left_parenthesis ∷ drop 1 bytes → SeesParams bytes end units → SeesResult bytes (end + 1) has_result
    → s.units ≡ units + cond receiver 1 0 → s.units ≤ 255 → s.has_result ≡ has_result → HasShape receiver bytes s
shape_is_seen receiver bytes end units has_result s begins params result total within has =
    let m : Measured = record { units = units; deep = false } in
    let sums : Sums m params.types = record {
      deep = sym params.shallow;
      small = omega (arith, total, within);
      exact = λ h. sym params.width;
      wide = λ h. absurd (omega (arith, h, total, within));
    } in
    let limits = has_shape receiver m params.types result.type s sums refl result.shallow total within (has ∙ result.is) in
    let reads = method_is_read bytes (drop 1 bytes) (drop (end + 1) bytes) result.rest params.types result.type begins params.reads result.reads in
    record {
      type = method_type params.types result.type;
      named = method_answer_limited receiver bytes result.rest (method_type params.types result.type) reads result.over ∙ limits.0;
      shape = limits.1;
    }
