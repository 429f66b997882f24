-- The bodies of the debug tables of a Code attribute, as the code finds them. Words of the code's own steps.
use Rattle.std.specs.Prelude.{◌≡◌, ℕ, Bool, ◌||◌, nat_le, List, [], ◌++◌, length, if◌then◌else◌, Option, Some, None, option_map, option_to_list}
use Rattle.std.specs.Borrow.{Bor}
use Rattle.std.specs.List.{list_any, flat_map}
use Rattle.pool.specs.Entries.{Entry}
use Rattle.classfile.specs.declared.release_form.debug_tables.Variable.{Variable}
use Rattle.classfile.specs.declared.release_form.debug_tables.VariableTable.{VariableTable}
use Rattle.classfile.specs.declared.release_form.few_rows.Rows.{Rows}
use Rattle.classfile.specs.declared.release_form.table_bodies.TableBodies.{TableBodies}
use Rattle.classfile.specs.release.DebugTables.{starts_of, variables_in, variables_of, body_named, bodies_named, line_number_table, local_variable_table, local_variable_type_table, is_misshaped, has_types, are_same, is_bad_row, are_bad}
use Rattle.classfile.specs.release.Twice.{has_twice}
use Rattle.classfile.specs.Values.{Nested, CodeBody}
use Rattle.std.specs.Str.{bytes_eq}

-- none, or one
abbrev pub bodies : Option (Bor (List ℕ)) → List (List ℕ)
bodies found = option_to_list (option_map (λ b. b.now) found)

-- the body, if it was found
abbrev pub body_if : Bool → List ℕ → List (List ℕ)
body_if found body = option_to_list (if found then Some body else None)

-- a body of this name was put to the others
pub record Adds (name body : List ℕ) (old new : TableBodies) : Type 0 where
  pub lines : bodies new.lines ≡ bodies old.lines ++ body_if (bytes_eq name line_number_table) body
  pub variables : bodies new.variables ≡ bodies old.variables ++ body_if (bytes_eq name local_variable_table) body
  pub types : bodies new.types ≡ bodies old.types ++ body_if (bytes_eq name local_variable_type_table) body

-- an attribute was put to the others
pub record Meets (pool : List Entry) (a : Nested) (old new : TableBodies) : Type 0 where
  pub lines : bodies new.lines ≡ bodies old.lines ++ option_to_list (body_named pool line_number_table a)
  pub variables : bodies new.variables ≡ bodies old.variables ++ option_to_list (body_named pool local_variable_table a)
  pub types : bodies new.types ≡ bodies old.types ++ option_to_list (body_named pool local_variable_type_table a)

-- there are no others of their names among the attributes
pub record AreOnly (pool : List Entry) (attributes : List Nested) (t : TableBodies) : Type 0 where
  pub lines : bodies t.lines ≡ bodies_named pool line_number_table attributes
  pub variables : bodies t.variables ≡ bodies_named pool local_variable_table attributes
  pub types : bodies t.types ≡ bodies_named pool local_variable_type_table attributes

-- they are those that are judged in a class of this major version
pub record AreJudged (major : ℕ) (pool : List Entry) (code : CodeBody) (t : TableBodies) : Type 0 where
  pub lines : bodies t.lines ≡ bodies_named pool line_number_table code.attributes
  pub variables : bodies t.variables ≡ bodies_named pool local_variable_table code.attributes
  pub types : bodies t.types ≡ (if has_types major then bodies_named pool local_variable_type_table code.attributes else [])

-- so many rows
abbrev pub rows_in : Rows → List Variable
rows_in rows = variables_in rows.count rows.bytes.now

abbrev pub rows_of : Option (Bor (List ℕ)) → List Variable
rows_of found = flat_map variables_of (bodies found)

-- whether it is this row, and the bytes behind it
abbrev pub compared : Variable → Variable × List ℕ → Bool × List ℕ
compared row x = (are_same row x.0, x.1)

-- one of them stands twice, or is bad by itself
abbrev pub are_bad_rows : VariableTable → List Entry → CodeBody → List Variable → Bool
are_bad_rows table pool code rows = has_twice are_same rows || list_any (is_bad_row table pool code) rows

-- a line begins at or behind an offset
abbrev pub has_line_behind : ℕ → Option (Bor (List ℕ)) → Bool
has_line_behind end found = list_any (nat_le end) (flat_map starts_of (bodies found))

abbrev pub are_misshaped : Option (Bor (List ℕ)) → Bool
are_misshaped found = list_any is_misshaped (bodies found)

-- one of them is bad
abbrev pub are_bad_bodies : List Entry → CodeBody → TableBodies → Bool
are_bad_bodies pool code t =
    (has_line_behind (length code.code) t.lines || are_misshaped t.types)
    || are_bad pool code (rows_of t.variables) (rows_of t.types)
