-- Layouts are compared by the program as they are defined to be the same.
use Rattle.std.proofs.Common.{◌≡◌, ◌&&◌, nat_eq, Bool, List, refl, ap}
use Rattle.std.specs.Str.{bytes_eq}
use Rattle.classfile.specs.contracts.layouts.ColumnPartialEq.TheImpl.{eq-value}
use Rattle.classfile.specs.contracts.layouts.AttributeLayoutPartialEq.TheImpl.{eq-value as layout_eq}
use Rattle.classfile.specs.declared.layouts.AttributeLayout.{AttributeLayout}
use Rattle.classfile.specs.declared.layouts.Column.{Column}
use Rattle.classfile.specs.declared.layouts.Column.TheVariants.{Plain, Text, TextOrZero, Class, ClassOrZero, Value}
use Rattle.classfile.specs.LayoutViews.{layout_view}
use Rattle.classfile.specs.Numbers.{is_same_column, is_same_layout}
use lib.Pointwise.{pointwise}
use mathlib.Core.Bool.{beq}

compared : (a b : Column) → eq-value.it a b ≡ is_same_column a b
compared Plain Plain = refl
compared Text Text = refl
compared TextOrZero TextOrZero = refl
compared Class Class = refl
compared ClassOrZero ClassOrZero = refl
compared Value Value = refl
compared a b = refl

pub columns_compared : (xs ys : List Column) → pointwise eq-value.it xs ys ≡ pointwise is_same_column xs ys
columns_compared xs ys = λ i. pointwise (λ a b. compared a b i) xs ys

pub layouts_compared : (a b : AttributeLayout) → layout_eq.it a b ≡ is_same_layout (layout_view a) (layout_view b)
layouts_compared a b =
    ap (λ (c : Bool). bytes_eq a.name.now b.name.now && (nat_eq a.first_major b.first_major && (beq a.once b.once && (beq a.counted b.counted && c))))
    (columns_compared a.columns.now b.columns.now)
