-- Words of the code's own steps: the place of a number among bytes, columns of which the indices alone are read, and
-- two attributes of a kind.
use Rattle.std.specs.Prelude.{ℕ, ◌+◌, ◌*◌, Bool, true, false, ◌&&◌, if◌then◌else◌, List, [], ◌∷◌, drop, length, nat_le, nat_lt, count_by, Option, Some, None}
use Rattle.classfile.specs.declared.layouts.Column.{Column}
use Rattle.classfile.specs.declared.layouts.Column.TheVariants.{Plain, Text}
use Rattle.pool.specs.Entries.{Entry}
use Rattle.classfile.specs.Indices.{on_text}
use Rattle.classfile.specs.Layouts.{AttributeLayout}
use Rattle.classfile.specs.Numbers.{Numbers, is_same_column}
use Rattle.classfile.specs.NumberForm.{on_numbers}
use Rattle.classfile.specs.Values.{AttributeOf, name_of, of_parts, of_numbers, raw}
use lib.Pointwise.{pointwise}

-- the number in front, if there are two bytes
abbrev pub first_number : List ℕ → Option ℕ
first_number (high ∷ low ∷ bytes) = Some (high * 256 + low)
first_number bytes = None

-- the bytes of the rows
abbrev pub behind_count : Numbers → List ℕ
behind_count n = if n.layout.counted then drop 2 n.body else n.body

-- ---- columns

-- no number of a row is an index
abbrev pub is_plain : Column → Bool
is_plain Plain = true
is_plain column = false

abbrev pub are_plain : List Column → Bool
are_plain [] = true
are_plain (c ∷ cs) = is_plain c && are_plain cs

-- the columns of local variables (4.7.13)
abbrev pub variable : List Column
variable = Plain ∷ Plain ∷ Text ∷ Text ∷ Plain ∷ []

abbrev pub are_variable : List Column → Bool
are_variable columns = pointwise is_same_column columns variable

-- ---- attributes

-- the body of an attribute is numbers
abbrev pub has_numbers : {A : Type 0} → AttributeOf A → Bool
has_numbers attribute = on_numbers (λ n. true) attribute

-- those of two are
abbrev pub two_have_numbers : {A : Type 0} → List (AttributeOf A) → Bool
two_have_numbers attributes = nat_lt 1 (count_by has_numbers attributes)

-- the name of an attribute is so long
abbrev pub is_long : {A : Type 0} → List Entry → ℕ → AttributeOf A → Bool
is_long pool least attribute = on_text pool (name_of attribute) (λ t. nat_le least (length t))

-- the layout of an attribute whose body is numbers
abbrev pub layout_of : {A : Type 0} → AttributeOf A → Option AttributeLayout
layout_of (of_parts name value) = None
layout_of (of_numbers name numbers) = Some numbers.layout
layout_of (raw name body) = None
