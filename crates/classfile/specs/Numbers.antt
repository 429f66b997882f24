-- The numbers in the body of an attribute (JVMS 4.7.2 to 4.7.31), row by row as its layout says, each of two bytes, the
-- high one first.
use Rattle.std.specs.Prelude.{ℕ, zero, suc, ◌+◌, ◌*◌, Bool, true, false, nat_eq, ◌&&◌, if◌then◌else◌, List, [], ◌∷◌, slice_get, Option, Some, None}
use Rattle.std.specs.List.{flat_map}
use Rattle.std.specs.Option.{option_and_then}
use Rattle.std.specs.Str.{bytes_eq}
use Rattle.classfile.specs.declared.layouts.Column.{Column}
use Rattle.classfile.specs.declared.layouts.Column.TheVariants.{Plain, Text, TextOrZero, Class, ClassOrZero, Value}
use Rattle.classfile.specs.Layouts.{AttributeLayout, has_layout}
use lib.Pointwise.{pointwise}
use mathlib.Core.Bool.{beq}

-- a body, and how it is laid out
pub record Numbers : Type 0 where
  pub layout : AttributeLayout
  pub body : List ℕ

-- a row: a number in each column
abbrev pub row_in : List Column → List ℕ → List ℕ
row_in (c ∷ cs) (high ∷ low ∷ bytes) = (high * 256 + low) ∷ row_in cs bytes
row_in cs bytes = []

-- the bytes after a row
abbrev pub behind_row : List Column → List ℕ → List ℕ
behind_row [] bytes = bytes
behind_row (c ∷ cs) (high ∷ low ∷ bytes) = behind_row cs bytes
behind_row (c ∷ cs) bytes = []

-- so many rows
abbrev pub rows_in : List Column → ℕ → List ℕ → List (List ℕ)
rows_in columns zero bytes = []
rows_in columns (suc n) bytes = row_in columns bytes ∷ rows_in columns n (behind_row columns bytes)

-- as many rows as the count in front says
abbrev pub counted_rows : List Column → List ℕ → List (List ℕ)
counted_rows columns (high ∷ low ∷ bytes) = rows_in columns (high * 256 + low) bytes
counted_rows columns bytes = []

-- the rows of an attribute: one where there is no count
abbrev pub rows_of : Numbers → List (List ℕ)
rows_of n = if n.layout.counted then counted_rows n.layout.columns n.body else rows_in n.layout.columns 1 n.body

-- the number in a row and a column, both counted from 0
abbrev pub number_at : Numbers → (row column : ℕ) → Option ℕ
number_at n row column = option_and_then (λ numbers. slice_get numbers column) (slice_get (rows_of n) row)

-- the first number of a row
abbrev pub first_of : List ℕ → List ℕ
first_of [] = []
first_of (n ∷ others) = n ∷ []

-- the first column
abbrev pub first_column : Numbers → List ℕ
first_column n = flat_map first_of (rows_of n)

-- ---- layouts that are the same

-- columns of one meaning
abbrev pub is_same_column : Column → Column → Bool
is_same_column Plain Plain = true
is_same_column Text Text = true
is_same_column TextOrZero TextOrZero = true
is_same_column Class Class = true
is_same_column ClassOrZero ClassOrZero = true
is_same_column Value Value = true
is_same_column a b = false

abbrev pub is_same_layout : AttributeLayout → AttributeLayout → Bool
is_same_layout a b =
    bytes_eq a.name b.name && (nat_eq a.first_major b.first_major && (beq a.once b.once
    && (beq a.counted b.counted && pointwise is_same_column a.columns b.columns)))

-- the numbers have the layout that attributes of their name have here, and their body is laid out so
abbrev pub is_laid_out : Option AttributeLayout → Numbers → Bool
is_laid_out None n = false
is_laid_out (Some layout) n = is_same_layout layout n.layout && has_layout layout n.body
