-- Debug tables of a Code attribute (JVMS 4.7.12 to 4.7.14): line numbers and local variables.
use Rattle.std.specs.Prelude.{ℕ, zero, suc, ◌+◌, ◌*◌, Bool, true, false, not, ◌&&◌, ◌||◌, nat_eq, nat_le, nat_lt, bytes_eq, List, [], ◌∷◌, ◌++◌, length, codes, if◌then◌else◌, Option, Some, None, option_to_list}
use Rattle.std.specs.List.{list_any, flat_map}
use Rattle.std.specs.Option.{option_map_or}
use Rattle.pool.specs.Entries.{Entry}
use Rattle.classfile.specs.declared.indices.ConstantKind.TheVariants as kinds
use Rattle.classfile.specs.declared.release_form.debug_tables.Variable.{Variable}
use Rattle.classfile.specs.declared.release_form.debug_tables.VariableTable.{VariableTable}
use Rattle.classfile.specs.declared.release_form.debug_tables.VariableTable.TheVariants as tables
use Rattle.classfile.specs.AttributeForm.{on_body}
use Rattle.classfile.specs.Indices.{is_bad, is_other, on_text}
use Rattle.classfile.specs.Layouts.{has_count}
use Rattle.classfile.specs.Locations.{is_named}
use Rattle.classfile.specs.Naming.{is_unqualified_name, is_field_descriptor}
use Rattle.classfile.specs.release.Twice.{has_twice}
use Rattle.classfile.specs.Values.{of_parts, of_numbers, raw, Nested, CodeBody, Attribute}

-- ---- the rows of a table

-- the start of a line (4.7.12), and the bytes behind the row
abbrev pub first_start : List ℕ → Option (ℕ × List ℕ)
first_start (a ∷ b ∷ c ∷ d ∷ behind) = Some (a * 256 + b, behind)
first_start bytes = None

-- the start of each of so many lines
abbrev pub starts_in : ℕ → List ℕ → List ℕ
starts_in zero bytes = []
starts_in (suc n) bytes = option_map_or (λ x. x.0 ∷ starts_in n x.1) (first_start bytes) []

abbrev pub starts_of : List ℕ → List ℕ
starts_of (high ∷ low ∷ rows) = starts_in (high * 256 + low) rows
starts_of bytes = []

-- a local variable (4.7.13, 4.7.14), and the bytes behind the row: of one of a LocalVariableTypeTable the descriptor is
-- a signature
abbrev pub first_variable : List ℕ → Option (Variable × List ℕ)
first_variable (a ∷ b ∷ c ∷ d ∷ e ∷ f ∷ g ∷ h ∷ i ∷ j ∷ behind) =
    Some (
      record {
        start = a * 256 + b;
        length = c * 256 + d;
        name = e * 256 + f;
        descriptor = g * 256 + h;
        index = i * 256 + j;
      },
      behind,
    )
first_variable bytes = None

-- so many local variables
abbrev pub variables_in : ℕ → List ℕ → List Variable
variables_in zero bytes = []
variables_in (suc n) bytes = option_map_or (λ x. x.0 ∷ variables_in n x.1) (first_variable bytes) []

abbrev pub variables_of : List ℕ → List Variable
variables_of (high ∷ low ∷ rows) = variables_in (high * 256 + low) rows
variables_of bytes = []

-- ---- the tables of a Code attribute

-- the body of an attribute of this name
abbrev pub body_named : List Entry → List ℕ → Nested → Option (List ℕ)
body_named pool name (of_parts index body) = None
body_named pool name (of_numbers index n) = if bytes_eq n.layout.name name then Some n.body else None
body_named pool name (raw index body) = if is_named pool index name then Some body else None

abbrev pub bodies_named : List Entry → List ℕ → List Nested → List (List ℕ)
bodies_named pool name [] = []
bodies_named pool name (a ∷ others) = option_to_list (body_named pool name a) ++ bodies_named pool name others

abbrev pub line_number_table : List ℕ
line_number_table = codes "LineNumberTable"

abbrev pub local_variable_table : List ℕ
local_variable_table = codes "LocalVariableTable"

abbrev pub local_variable_type_table : List ℕ
local_variable_type_table = codes "LocalVariableTypeTable"

unfoldable pub variables_named : List Entry → List ℕ → CodeBody → List Variable
variables_named pool name code = flat_map variables_of (bodies_named pool name code.attributes)

-- ---- what may be wrong

-- a line begins in the code
unfoldable pub has_bad_line : List Entry → CodeBody → Bool
has_bad_line pool code =
    list_any (nat_le (length code.code)) (flat_map starts_of (bodies_named pool line_number_table code.attributes))

-- the body is a count and as many rows of five numbers
abbrev pub is_misshaped : List ℕ → Bool
is_misshaped body = not (has_count 10 body)

-- class files have types of local variables from major version 49 on
abbrev pub has_types : ℕ → Bool
has_types major = nat_le 49 major

unfoldable pub has_misshaped : List Entry → CodeBody → Bool
has_misshaped pool code = list_any is_misshaped (bodies_named pool local_variable_type_table code.attributes)

abbrev pub lacks_text : List Entry → ℕ → Bool
lacks_text pool index = is_bad pool index || is_other pool kinds.Utf8 index

-- the local variable does not live within the code
abbrev pub passes_code : CodeBody → Variable → Bool
passes_code code v = nat_le (length code.code) v.start || nat_lt (length code.code) (v.start + v.length)

-- it has no unqualified name
abbrev pub is_unnamed : List Entry → Variable → Bool
is_unnamed pool v = lacks_text pool v.name || on_text pool v.name (λ t. not (is_unqualified_name t))

-- a long or double takes the local variable behind it too
abbrev pub is_wide : List ℕ → Bool
is_wide descriptor = bytes_eq descriptor (codes "J") || bytes_eq descriptor (codes "D")

abbrev pub last_index : List Entry → Variable → ℕ
last_index pool v = if on_text pool v.descriptor is_wide then v.index + 1 else v.index

abbrev pub is_undescribed : List Entry → ℕ → Bool
is_undescribed pool index = lacks_text pool index || on_text pool index (λ t. not (is_field_descriptor t))

-- the row has another place than a local variable, or what its table tells of a type is not there
abbrev pub has_bad_type : VariableTable → List Entry → CodeBody → Variable → Bool
has_bad_type tables.Variables pool code v =
    is_undescribed pool v.descriptor || nat_le code.max_locals (last_index pool v)
has_bad_type tables.Types pool code v = lacks_text pool v.descriptor || nat_le code.max_locals v.index

abbrev pub is_bad_row : VariableTable → List Entry → CodeBody → Variable → Bool
is_bad_row table pool code v = (passes_code code v || is_unnamed pool v) || has_bad_type table pool code v

-- one name for one place from one offset to another
abbrev pub are_same : Variable → Variable → Bool
are_same v w =
    (nat_eq v.start w.start && nat_eq v.length w.length) && (nat_eq v.name w.name && nat_eq v.index w.index)

-- a type without its row among the local variables
abbrev pub is_alone : List Variable → Variable → Bool
is_alone variables type = not (list_any (λ v. are_same v type) variables)

-- where there are local variables, each type has its row among them
abbrev pub are_alone : List Variable → List Variable → Bool
are_alone [] types = false
are_alone (v ∷ vs) types = list_any (is_alone (v ∷ vs)) types

abbrev pub are_repeated : List Variable → List Variable → Bool
are_repeated variables types =
    has_twice are_same variables || (has_twice are_same types || are_alone variables types)

abbrev pub are_bad : List Entry → CodeBody → (variables types : List Variable) → Bool
are_bad pool code variables types =
    are_repeated variables types
    || (list_any (is_bad_row tables.Variables pool code) variables
    || list_any (is_bad_row tables.Types pool code) types)

unfoldable pub types_named : ℕ → List Entry → CodeBody → List Variable
types_named major pool code = if has_types major then variables_named pool local_variable_type_table code else []

unfoldable pub has_bad_variables : ℕ → List Entry → CodeBody → Bool
has_bad_variables major pool code =
    are_bad pool code (variables_named pool local_variable_table code) (types_named major pool code)

unfoldable pub has_bad_table : ℕ → List Entry → CodeBody → Bool
has_bad_table major pool code =
    (has_bad_line pool code || (has_types major && has_misshaped pool code)) || has_bad_variables major pool code

-- a Code attribute among these has one, in a class of this major version
unfoldable pub have_bad_table : ℕ → List Entry → List Attribute → Bool
have_bad_table major pool attributes = list_any (on_body (has_bad_table major pool)) attributes
