-- The types in front of a ')', and the result after it.
use Rattle.std.proofs.Common.{◌≡◌, ℕ, ◌≤◌, ◌+◌, Bool, true, false, List, [], ◌∷◌, ◌++◌, length, drop, Option, Some, None, Ok, is_some, refl, sym, ap, ◌∙◌, append_assoc, arith}
use Rattle.std.specs.List.{flat_map, list_any}
use Rattle.std.proofs.lemmas.Bool.{ltb-false, or_parts}
use Rattle.std.proofs.lemmas.List.{append-nil}
use Rattle.std.proofs.lemmas.List.Folds.{list_any-append}
use Rattle.names.specs.Descriptors.{FieldDescriptor, MethodDescriptor, dimensions, field_spelling, method_width, result_spelling, result_types, right_parenthesis}
use Rattle.names.specs.Reading.{is_deep, method_answer}
use Rattle.names.proofs.AnswerLaws.{method_answered, not_deep, one_method}
use Rattle.names.proofs.Written.{many_are_wide}
use Rattle.type_numbers.specs.private.SpelledTypes.{AreInFront, BeginsWith, IsResult}

-- the first of the types, and the others
pub first_begins : (bytes rest : List ℕ) (t : FieldDescriptor) (types : List FieldDescriptor) → AreInFront bytes (t ∷ types) rest → BeginsWith bytes t (flat_map field_spelling types ++ right_parenthesis ∷ rest)
first_begins bytes rest t types h =
    let deep = or_parts (is_deep t) (list_any is_deep types) h.shallow in
    record {
      named = h.named.0;
      shallow = ltb-false 255 (dimensions t) deep.0;
      parts = h.parts ∙ append_assoc (field_spelling t) (flat_map field_spelling types) (right_parenthesis ∷ rest);
    }

pub others_follow : (bytes behind rest : List ℕ) (t : FieldDescriptor) (types : List FieldDescriptor) → AreInFront bytes (t ∷ types) rest
    → behind ≡ flat_map field_spelling types ++ right_parenthesis ∷ rest → AreInFront behind types rest
others_follow bytes behind rest t types h is =
    let deep = or_parts (is_deep t) (list_any is_deep types) h.shallow in
    record { named = h.named.1; shallow = deep.1; parts = is }

-- a result that is a type begins with it, and nothing follows
pub result_begins : (has : Bool) (bytes : List ℕ) (t : FieldDescriptor) → IsResult has bytes (Some t) → BeginsWith bytes t []
result_begins has bytes t h =
    let deep = or_parts (is_deep t) false h.shallow in
    record { named = h.named; shallow = ltb-false 255 (dimensions t) deep.0; parts = h.parts ∙ sym (append-nil (field_spelling t)) }

pub no_result : (t : Option FieldDescriptor) (bytes : List ℕ) → IsResult false bytes t → t ≡ None
no_result None bytes h = refl
no_result (Some t) bytes h = absurd (let e = h.has in cc)

pub some_result : (t : Option FieldDescriptor) (bytes : List ℕ) → IsResult true bytes t → (u : FieldDescriptor) × (t ≡ Some u)
some_result None bytes h = absurd (let e = h.has in cc)
some_result (Some t) bytes h = (t, refl)

-- ---- a whole descriptor

module _ (bytes : List ℕ) (m : MethodDescriptor) (is : method_answer false bytes ≡ Ok m) where
  pub descriptor_begins : 1 ≤ length bytes
  descriptor_begins =
      let s = method_answered false bytes m is in
      let l = ap length s.0.spelled in
      omega (arith, l)

  pub few_units : method_width m false ≤ 255
  few_units = (method_answered false bytes m is).2

  pub few_parameters : length m.params ≤ 255
  few_parameters =
      let w = few_units in
      let l = many_are_wide m.params in
      omega (arith, w, l)

  shallow_parts : (list_any is_deep m.params ≡ false) × (list_any is_deep (result_types m.result) ≡ false)
  shallow_parts =
      or_parts (list_any is_deep m.params) (list_any is_deep (result_types m.result))
      (sym (list_any-append is_deep m.params (result_types m.result)) ∙ not_deep m (method_answered false bytes m is).1)

  pub parameters_begin : (inside : List ℕ) → inside ≡ drop 1 bytes → AreInFront inside m.params (result_spelling m.result)
  parameters_begin inside e =
      let s = (method_answered false bytes m is).0 in
      record { named = s.params_named; shallow = shallow_parts.0; parts = e ∙ ap (drop 1) s.spelled }

  pub result_follows : (end behind : List ℕ) (has : Bool) → end ≡ right_parenthesis ∷ result_spelling m.result → behind ≡ drop 1 end → has ≡ is_some m.result → IsResult has behind m.result
  result_follows end behind has e f g =
      let s = (method_answered false bytes m is).0 in
      record { named = s.result_named; shallow = shallow_parts.1; has = g; parts = f ∙ ap (drop 1) e }

  -- and no other descriptor stands there
  pub one_descriptor : (n : MethodDescriptor) → method_answer false bytes ≡ Ok n → m ≡ n
  one_descriptor n e = one_method bytes m n (method_answered false bytes m is).0 (method_answered false bytes n e).0
