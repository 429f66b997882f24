-- Numbers are laid out as attributes of their name are exactly where they have that layout, and their body fits it.
use Rattle.std.proofs.Common.{◌≡◌, ℕ, Bool, true, false, nat_eq, List, Option, Some, None, refl, sym, ap, subst, ◌∙◌}
use Rattle.std.proofs.lemmas.Bool.{and_parts, and_from, eqb-true, eq-eqb}
use Rattle.std.specs.Str.{bytes_eq}
use Rattle.classfile.specs.declared.layouts.Column.{Column}
use Rattle.classfile.specs.declared.layouts.Column.TheVariants.{Plain, Text, TextOrZero, Class, ClassOrZero, Value}
use Rattle.classfile.specs.Layouts.{AttributeLayout, has_layout}
use Rattle.classfile.specs.Numbers.{Numbers, is_same_column, is_same_layout, is_laid_out}
use lib.Pointwise.{pointwise, pointwise_decides, bytes_decides}
use mathlib.Core.Bool.{beq}

same_column : (a b : Column) → is_same_column a b ≡ true → a ≡ b
same_column Plain Plain h = refl
same_column Text Text h = refl
same_column TextOrZero TextOrZero h = refl
same_column Class Class h = refl
same_column ClassOrZero ClassOrZero h = refl
same_column Value Value h = refl
same_column a b h = absurd (let x : false ≡ true = h in cc)

own_column : (a : Column) → is_same_column a a ≡ true
own_column Plain = refl
own_column Text = refl
own_column TextOrZero = refl
own_column Class = refl
own_column ClassOrZero = refl
own_column Value = refl

column_decides : (a b : Column) → (is_same_column a b ≡ true → a ≡ b) × (a ≡ b → is_same_column a b ≡ true)
column_decides a b = (same_column a b, λ e. subst (λ (c : Column). is_same_column a c ≡ true) e (own_column a))

pub columns_decide : (xs ys : List Column) → (pointwise is_same_column xs ys ≡ true → xs ≡ ys)
    × (xs ≡ ys → pointwise is_same_column xs ys ≡ true)
columns_decide = pointwise_decides column_decides

same_flag : (a b : Bool) → beq a b ≡ true → a ≡ b
same_flag true true h = refl
same_flag true false h = absurd (let x : false ≡ true = h in cc)
same_flag false true h = absurd (let x : false ≡ true = h in cc)
same_flag false false h = refl

own_flag : (a : Bool) → beq a a ≡ true
own_flag true = refl
own_flag false = refl

same_layout : (a b : AttributeLayout) → is_same_layout a b ≡ true → a ≡ b
same_layout a b h =
    let p = and_parts (bytes_eq a.name b.name) _ h in
    let q = and_parts (nat_eq a.first_major b.first_major) _ p.1 in
    let r = and_parts (beq a.once b.once) _ q.1 in
    let s = and_parts (beq a.counted b.counted) _ r.1 in
    let name = (bytes_decides a.name b.name).0 p.0 in
    let major = eqb-true a.first_major b.first_major q.0 in
    let once = same_flag a.once b.once r.0 in
    let counted = same_flag a.counted b.counted s.0 in
    let columns = (columns_decide a.columns b.columns).0 s.1 in
    λ i. record { name = name i; first_major = major i; once = once i; counted = counted i; columns = columns i }

pub own_layout : (a : AttributeLayout) → is_same_layout a a ≡ true
own_layout a =
    and_from (bytes_eq a.name a.name) _ ((bytes_decides a.name a.name).1 refl)
    (and_from (nat_eq a.first_major a.first_major) _ (eq-eqb a.first_major a.first_major refl)
    (and_from (beq a.once a.once) _ (own_flag a.once)
    (and_from (beq a.counted a.counted) _ (own_flag a.counted) ((columns_decide a.columns a.columns).1 refl))))

pub laid_out_parts : (o : Option AttributeLayout) (n : Numbers) → is_laid_out o n ≡ true → (o ≡ Some n.layout)
    × (has_layout n.layout n.body ≡ true)
laid_out_parts None n h = absurd (let x : false ≡ true = h in cc)
laid_out_parts (Some layout) n h =
    let p = and_parts (is_same_layout layout n.layout) (has_layout layout n.body) h in
    let same = same_layout layout n.layout p.0 in
    (ap Some same, sym (ap (λ (l : AttributeLayout). has_layout l n.body) same) ∙ p.1)

pub laid_out_as_it_is : (layout : AttributeLayout) (body : List ℕ) → has_layout layout body ≡ true
    → is_laid_out (Some layout) (record { layout = layout; body = body }) ≡ true
laid_out_as_it_is layout body h = and_from (is_same_layout layout layout) (has_layout layout body) (own_layout layout) h
