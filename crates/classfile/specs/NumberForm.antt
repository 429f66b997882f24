-- The faults that the numbers of an attribute may have (JVMS 4.7): the indices among them, column by column.
use Rattle.std.specs.Prelude.{ℕ, Bool, false, ◌||◌, ◌&&◌, List, ◌∷◌, nat_lt, count_by}
use Rattle.std.specs.List.{list_any}
use Rattle.pool.specs.Entries.{Entry}
use Rattle.classfile.specs.declared.indices.ConstantKind.TheVariants as kinds
use Rattle.classfile.specs.declared.layouts.Column.{Column}
use Rattle.classfile.specs.declared.layouts.Column.TheVariants.{Plain, Text, TextOrZero, Class, ClassOrZero, Value}
use Rattle.classfile.specs.declared.location.Location.{Location}
use Rattle.classfile.specs.declared.number_form.IndexRule.{IndexRule}
use Rattle.classfile.specs.declared.number_form.IndexRule.TheVariants as rules
use Rattle.classfile.specs.Indices.{is_bad, is_bad_unless_zero, is_other}
use Rattle.classfile.specs.Layouts.{AttributeLayout, layouts_in}
use Rattle.classfile.specs.Numbers.{Numbers, rows_of, is_same_layout}
use Rattle.classfile.specs.Values.{AttributeOf, of_parts, of_numbers, raw}

-- the number is an index that may not be looked up; 0 may stand where the column says so
abbrev pub is_bad_in : List Entry → Column → ℕ → Bool
is_bad_in pool Plain n = false
is_bad_in pool Text n = is_bad pool n
is_bad_in pool TextOrZero n = is_bad_unless_zero pool n
is_bad_in pool Class n = is_bad pool n
is_bad_in pool ClassOrZero n = is_bad_unless_zero pool n
is_bad_in pool Value n = is_bad pool n

-- the number is an index at which another kind of constant stands
abbrev pub is_other_in : List Entry → Column → ℕ → Bool
is_other_in pool Plain n = false
is_other_in pool Text n = is_other pool kinds.Utf8 n
is_other_in pool TextOrZero n = is_other pool kinds.Utf8 n
is_other_in pool Class n = is_other pool kinds.Class n
is_other_in pool ClassOrZero n = is_other pool kinds.Class n
is_other_in pool Value n = is_other pool kinds.Value n

abbrev pub breaks : List Entry → IndexRule → Column → ℕ → Bool
breaks pool rules.BadIndex column n = is_bad_in pool column n
breaks pool rules.WrongKind column n = is_other_in pool column n
breaks pool rules.Both column n = is_bad_in pool column n || is_other_in pool column n

-- a number of a row breaks the rule
abbrev pub row_breaks : (Column → ℕ → Bool) → List Column → List ℕ → Bool
row_breaks test (c ∷ cs) (n ∷ row) = test c n || row_breaks test cs row
row_breaks test cs row = false

-- an index among the numbers breaks the rule
unfoldable pub numbers_break : List Entry → IndexRule → Numbers → Bool
numbers_break pool rule n = list_any (row_breaks (breaks pool rule) n.layout.columns) (rows_of n)

-- the body is numbers, and these pass the test
abbrev pub on_numbers : {A : Type 0} → (Numbers → Bool) → AttributeOf A → Bool
on_numbers test (of_parts name value) = false
on_numbers test (of_numbers name numbers) = test numbers
on_numbers test (raw name body) = false

-- ---- attributes that may stand once

-- the attribute has the layout
unfoldable pub has_this_layout : {A : Type 0} → AttributeLayout → AttributeOf A → Bool
has_this_layout layout attribute = on_numbers (λ n. is_same_layout layout n.layout) attribute

unfoldable pub layout_stands_twice : {A : Type 0} → List (AttributeOf A) → AttributeLayout → Bool
layout_stands_twice attributes layout = layout.once && nat_lt 1 (count_by (has_this_layout layout) attributes)

unfoldable pub numbers_stand_twice : {A : Type 0} → Location → List (AttributeOf A) → Bool
numbers_stand_twice place attributes = list_any (layout_stands_twice attributes) (layouts_in place)
