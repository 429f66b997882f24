-- A table of at most one attribute whose body is numbers has none of these twice, and one of at most one long name none of
-- that name.
use Rattle.std.proofs.Common.{◌≡◌, ◌≤◌, ◌<◌, ◌∙◌, cond, ℕ, zero, suc, Bool, true, false, ◌&&◌, ◌||◌, List, [], ◌∷◌, Result, Ok, Err, refl, sym, subst, ap, arith}
use Rattle.std.specs.Prelude.{nat_le, nat_lt, count_by, length}
use Rattle.std.specs.List.{list_any, list_all}
use Rattle.std.specs.Str.{bytes_eq}
use Rattle.std.proofs.lemmas.Bool.Decides.{nat_tests}
use Rattle.std.proofs.lemmas.List.Sums.{sum_by-cons}
use Rattle.std.proofs.lemmas.Slice.Eq.{bytes_eq-Decides}
use Rattle.pool.specs.declared.fault.PoolFault.{PoolFault}
use Rattle.pool.specs.Entries.{Entry}
use Rattle.pool.specs.Lookups.{text_at}
use Rattle.classfile.specs.Indices.{on_found}
use Rattle.classfile.specs.Locations.{is_this}
use Rattle.classfile.specs.declared.location.Location.{Location}
use Rattle.classfile.specs.Layouts.{AttributeLayout, layouts_in}
use Rattle.classfile.specs.private.IndexColumns.{has_numbers, two_have_numbers, is_long}
use Rattle.classfile.specs.Numbers.{is_same_layout}
use Rattle.classfile.specs.NumberForm.{has_this_layout, layout_stands_twice, numbers_stand_twice}
use Rattle.classfile.specs.release.Attributes.{Single, singles_in, has_name, single_stands_twice, singles_stand_twice}
use Rattle.classfile.specs.Values.{AttributeOf, name_of, of_parts, of_numbers, raw}

pub at_most_one : (n : ℕ) → n < 2 → nat_lt 1 n ≡ false
at_most_one zero few = refl
at_most_one (suc zero) few = refl
at_most_one (suc (suc n)) few = absurd (omega (arith, few))

neither : (a b : Bool) → b ≡ false → a && b ≡ false
neither true b e = e
neither false b e = refl

at_most : (b : Bool) → cond b 1 0 ≤ 1
at_most true = omega arith
at_most false = omega arith

no_more : {A : Type 0} (layout : AttributeLayout) (attributes : List (AttributeOf A)) → count_by (has_this_layout layout) attributes ≤ count_by has_numbers attributes
unfolding has_this_layout
no_more layout [] = omega arith
no_more {A} layout (of_parts name value ∷ others) =
    let x : AttributeOf A = of_parts name value in
    let first = sum_by-cons (λ y. cond (has_this_layout layout y) 1 0) x others in
    let second = sum_by-cons (λ (y : AttributeOf A). cond (has_numbers y) 1 0) x others in
    omega (arith, first, second, no_more layout others)
no_more {A} layout (of_numbers name numbers ∷ others) =
    let x : AttributeOf A = of_numbers name numbers in
    let first = sum_by-cons (λ y. cond (has_this_layout layout y) 1 0) x others in
    let second = sum_by-cons (λ (y : AttributeOf A). cond (has_numbers y) 1 0) x others in
    omega (arith, first, second, at_most (is_same_layout layout numbers.layout), no_more layout others)
no_more {A} layout (raw name body ∷ others) =
    let x : AttributeOf A = raw name body in
    let first = sum_by-cons (λ y. cond (has_this_layout layout y) 1 0) x others in
    let second = sum_by-cons (λ (y : AttributeOf A). cond (has_numbers y) 1 0) x others in
    omega (arith, first, second, no_more layout others)

not_over : (m n : ℕ) → m ≤ n → nat_lt 1 n ≡ false → nat_lt 1 m ≡ false
not_over m n less few =
    let under : n < 2 = grind (arith, nat_tests) in
    at_most_one m (omega (arith, less, under))

no_layout : {A : Type 0} (attributes : List (AttributeOf A)) (layout : AttributeLayout) → two_have_numbers attributes ≡ false → layout_stands_twice attributes layout ≡ false
unfolding layout_stands_twice
no_layout attributes layout few =
    neither layout.once (nat_lt 1 (count_by (has_this_layout layout) attributes))
    (not_over (count_by (has_this_layout layout) attributes) (count_by has_numbers attributes) (no_more layout attributes) few)

no_layouts : {A : Type 0} (attributes : List (AttributeOf A)) (layouts : List AttributeLayout) → two_have_numbers attributes ≡ false
    → list_any (layout_stands_twice attributes) layouts ≡ false
no_layouts attributes [] few = refl
no_layouts attributes (layout ∷ others) few =
    ap (λ (b : Bool). b || list_any (layout_stands_twice attributes) others) (no_layout attributes layout few) ∙ no_layouts attributes others few

pub stand_once : {A : Type 0} (place : Location) (attributes : List (AttributeOf A)) → two_have_numbers attributes ≡ false → numbers_stand_twice place attributes ≡ false
unfolding numbers_stand_twice
stand_once place attributes few = no_layouts attributes (layouts_in place) few

-- ---- a table of at most one attribute whose name is long has none twice

-- a text that is this one is as long
as_long : (least : ℕ) (name : List ℕ) (r : Result (List ℕ) PoolFault) → nat_le least (length name) ≡ true
    → cond (is_this name r) 1 0 ≤ cond (on_found (λ t. nat_le least (length t)) r) 1 0
as_long least name (Err e) long = omega arith
as_long least name (Ok bytes) long = by (bytes_eq bytes name) refl
  where
    by : (b : Bool) → bytes_eq bytes name ≡ b → cond b 1 0 ≤ cond (nat_le least (length bytes)) 1 0
    by false e = at_least (nat_le least (length bytes))
      where
        at_least : (b : Bool) → 0 ≤ cond b 1 0
        at_least b = omega arith
    by true e =
        let same : bytes ≡ name = (bytes_eq-Decides bytes name).0 e in
        let is : nat_le least (length bytes) ≡ true = ap (λ (t : List ℕ). nat_le least (length t)) same ∙ long in
        subst (λ (b : Bool). 1 ≤ cond b 1 0) (sym is) (omega arith)

no_more_long : {A : Type 0} (pool : List Entry) (least : ℕ) (name : List ℕ) (attributes : List (AttributeOf A)) → nat_le least (length name) ≡ true
    → count_by (has_name pool name) attributes ≤ count_by (is_long pool least) attributes
no_more_long pool least name [] long = omega arith
no_more_long {A} pool least name (x ∷ others) long =
    let first = sum_by-cons (λ (y : AttributeOf A). cond (has_name pool name y) 1 0) x others in
    let second = sum_by-cons (λ (y : AttributeOf A). cond (is_long pool least y) 1 0) x others in
    omega (arith, first, second, as_long least name (text_at pool (name_of x)) long, no_more_long pool least name others long)

single_once : {A : Type 0} (major : ℕ) (pool : List Entry) (least : ℕ) (attributes : List (AttributeOf A)) (s : Single) → nat_le least (length s.name) ≡ true
    → nat_lt 1 (count_by (is_long pool least) attributes) ≡ false → single_stands_twice major pool attributes s ≡ false
unfolding single_stands_twice
single_once major pool least attributes s long few =
    neither (nat_le s.first_major major) (nat_lt 1 (count_by (has_name pool s.name) attributes))
    (not_over (count_by (has_name pool s.name) attributes) (count_by (is_long pool least) attributes) (no_more_long pool least s.name attributes long) few)

both : (a b : Bool) → (a && b) ≡ true → (a ≡ true) × (b ≡ true)
both true b e = (refl, e)
both false b e = absurd cc

none_twice : {A : Type 0} (major : ℕ) (pool : List Entry) (least : ℕ) (attributes : List (AttributeOf A)) (singles : List Single)
    → list_all (λ (s : Single). nat_le least (length s.name)) singles ≡ true → nat_lt 1 (count_by (is_long pool least) attributes) ≡ false
    → list_any (single_stands_twice major pool attributes) singles ≡ false
none_twice major pool least attributes [] long few = refl
none_twice major pool least attributes (s ∷ others) long few =
    let are = both (nat_le least (length s.name)) (list_all (λ (s : Single). nat_le least (length s.name)) others) long in
    ap (λ (b : Bool). b || list_any (single_stands_twice major pool attributes) others) (single_once major pool least attributes s are.0 few)
    ∙ none_twice major pool least attributes others are.1 few

pub singles_once : {A : Type 0} (major : ℕ) (pool : List Entry) (place : Location) (least : ℕ) (attributes : List (AttributeOf A))
    → list_all (λ (s : Single). nat_le least (length s.name)) (singles_in place) ≡ true → nat_lt 1 (count_by (is_long pool least) attributes) ≡ false
    → singles_stand_twice major pool place attributes ≡ false
unfolding singles_stand_twice
singles_once major pool place least attributes long few = none_twice major pool least attributes (singles_in place) long few
