-- Bodies of debug tables, one attribute after the other.
use Rattle.std.proofs.Common.{◌≡◌, ◌+◌, ◌<◌, ◌∙◌, ◌&&◌, ◌||◌, ◌++◌, ℕ, suc, Bool, true, false, List, [], ◌∷◌, length, drop, drop-cons, add-one, cond, Some, refl, sym, ap, ap₂}
use Rattle.std.specs.Prelude.{slice_get, nat_le, option_to_list}
use Rattle.std.specs.List.{list_any, flat_map}
use Rattle.std.proofs.lemmas.List.{append_assoc}
use Rattle.std.proofs.lemmas.Option.{slice_get_within, get_or_from_slice_get}
use Rattle.pool.specs.Entries.{Entry}
use Rattle.classfile.specs.declared.release_form.debug_tables.Variable.{Variable}
use Rattle.classfile.specs.declared.release_form.table_bodies.TableBodies.{TableBodies}
use Rattle.classfile.specs.private.TableBodies.{bodies, rows_of, are_bad_bodies, AreJudged}
use Rattle.classfile.specs.Values.{Nested, CodeBody}
use Rattle.classfile.specs.release.DebugTables.{starts_of, variables_of, body_named, bodies_named, line_number_table, local_variable_type_table, is_misshaped, has_types, are_bad, has_bad_table, has_bad_line, has_misshaped, has_bad_variables, types_named, variables_named}

bodies_from : (pool : List Entry) (name : List ℕ) (attributes : List Nested) (i : ℕ) (a : Nested) → slice_get attributes i ≡ Some a
    → bodies_named pool name (drop i attributes) ≡ option_to_list (body_named pool name a) ++ bodies_named pool name (drop (i + 1) attributes)
bodies_from pool name attributes i a here =
    let lt : i < length attributes = slice_get_within attributes i a here in
    ap (bodies_named pool name) (drop-cons attributes i a lt)
    ∙ ap (λ (x : Nested). bodies_named pool name (x ∷ drop (suc i) attributes)) (get_or_from_slice_get attributes i a a here)
    ∙ ap (λ (k : ℕ). bodies_named pool name (a ∷ drop k attributes)) (sym (add-one i))

-- the bodies that were found, with one more
pub one_more : (pool : List Entry) (name : List ℕ) (attributes : List Nested) (i : ℕ) (a : Nested) (old new : List (List ℕ)) → slice_get attributes i ≡ Some a
    → new ≡ old ++ option_to_list (body_named pool name a) → bodies_named pool name attributes ≡ old ++ bodies_named pool name (drop i attributes)
    → bodies_named pool name attributes ≡ new ++ bodies_named pool name (drop (i + 1) attributes)
one_more pool name attributes i a old new here added so =
    let rest = bodies_named pool name (drop (i + 1) attributes) in
    so ∙ ap (λ (bs : List (List ℕ)). old ++ bs) (bodies_from pool name attributes i a here)
    ∙ sym (append_assoc old (option_to_list (body_named pool name a)) rest)
    ∙ ap (λ (bs : List (List ℕ)). bs ++ rest) (sym added)

-- ---- all tables of a Code attribute

misshaped_types : (has : Bool) (all : List (List ℕ)) → list_any is_misshaped (cond has all []) ≡ (has && list_any is_misshaped all)
misshaped_types true all = refl
misshaped_types false all = refl

rows_of_types : (has : Bool) (all : List (List ℕ)) → flat_map variables_of (cond has all []) ≡ cond has (flat_map variables_of all) []
rows_of_types true all = refl
rows_of_types false all = refl

pub judged_bad : (major : ℕ) (pool : List Entry) (code : CodeBody) (t : TableBodies) → AreJudged major pool code t → are_bad_bodies pool code t ≡ has_bad_table major pool code
unfolding has_bad_table has_bad_line has_misshaped has_bad_variables types_named variables_named
judged_bad major pool code t are =
    let lines = bodies_named pool line_number_table code.attributes in
    let types = bodies_named pool local_variable_type_table code.attributes in
    ap (λ (b : Bool). b || are_bad pool code (rows_of t.variables) (rows_of t.types))
    (ap₂ (λ (a b : Bool). a || b)
    (ap (λ (bs : List (List ℕ)). list_any (nat_le (length code.code)) (flat_map starts_of bs)) are.lines)
    (ap (list_any is_misshaped) are.types ∙ misshaped_types (has_types major) types))
    ∙ ap (λ (b : Bool). ((list_any (nat_le (length code.code)) (flat_map starts_of lines)) || (has_types major && list_any is_misshaped types)) || b)
    (ap₂ (λ (vs ts : List Variable). are_bad pool code vs ts) (ap (flat_map variables_of) are.variables)
    (ap (flat_map variables_of) are.types ∙ rows_of_types (has_types major) types))
