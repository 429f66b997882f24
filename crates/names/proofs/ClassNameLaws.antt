-- Class names: unqualified names joined by '/', and the test that goes over them unit by unit.
use Rattle.std.proofs.Common.{◌≡◌, ℕ, ◌<◌, Bool, true, false, eqb, not, ◌&&◌, ◌||◌, List, [], ◌∷◌, ◌++◌, length, refl, sym, ap, ◌∙◌, arith, inl, inr}
use Rattle.std.proofs.lemmas.Bool.Decides.{nat_tests}
use Rattle.std.proofs.lemmas.Bool.{cases_Bool, and_parts, and_from, or_left, eqb-true, true≢false, false≢true}
use Rattle.std.proofs.lemmas.List.{append-nil}
use Rattle.std.proofs.lemmas.List.Sums.{AllPass-from_list_all, list_all-from_AllPass}
use Rattle.std.specs.List.{list_all, AllByRecursion, join_with_byte}
use Rattle.names.specs.Names.{slash, is_name_unit, IsUnqualifiedName, IsClassName}
use Rattle.names.specs.Reading.{goes_on, ends_class_name}

pub no_slash : (u : ℕ) → is_name_unit u ≡ true → eqb u slash ≡ false
no_slash u h = grind (arith, nat_tests)

fresh_unit : (u : ℕ) → goes_on true u ≡ true → is_name_unit u ≡ true
fresh_unit u h = by_case (is_name_unit u) h
  where
    by_case : (b : Bool) → (b || (not true && eqb u slash)) ≡ true → b ≡ true
    by_case true e = refl
    by_case false e = e

later_unit : (u : ℕ) → goes_on false u ≡ true → eqb u slash ≡ false → is_name_unit u ≡ true
later_unit u h n = by_case (is_name_unit u) (eqb u slash) h n
  where
    by_case : (b s : Bool) → (b || (not false && s)) ≡ true → s ≡ false → b ≡ true
    by_case true s e n = refl
    by_case false true e n = absurd (true≢false n)
    by_case false false e n = e

-- ---- what the test takes is a class name

-- what stands after the first unit of an unqualified name
data Behind (units : List ℕ) : Type 0 where
  last : list_all is_name_unit units ≡ true → Behind units
  more : (name others : List ℕ) → list_all is_name_unit name ≡ true → IsClassName others → units ≡ name ++ slash ∷ others → Behind units

unqualified : (u : ℕ) (name : List ℕ) → is_name_unit u ≡ true → list_all is_name_unit name ≡ true → IsUnqualifiedName (u ∷ name)
unqualified u name h k = record { some = omega arith; each = AllPass-from_list_all is_name_unit (u ∷ name) (and_from (is_name_unit u) (list_all is_name_unit name) h k) }

join_more : (name : List ℕ) (names : List (List ℕ)) → 0 < length names → join_with_byte slash (name ∷ names) ≡ name ++ slash ∷ join_with_byte slash names
join_more name [] h = absurd (omega arith)
join_more name (x ∷ names) h = refl

first_name : (u : ℕ) (units : List ℕ) → is_name_unit u ≡ true → Behind units → IsClassName (u ∷ units)
first_name u units is (last h) = record { names = (u ∷ units) ∷ []; some = omega arith; each = (unqualified u units is h, tt); joined = refl }
first_name u units is (more name others h c e) =
    record {
      names = (u ∷ name) ∷ c.names;
      some = omega arith;
      each = (unqualified u name is h, c.each);
      joined = ap (λ (t : List ℕ). u ∷ t) (e ∙ ap (λ (t : List ℕ). name ++ slash ∷ t) c.joined) ∙ sym (join_more (u ∷ name) c.names c.some);
    }

one_more : (u : ℕ) (units : List ℕ) → is_name_unit u ≡ true → Behind units → Behind (u ∷ units)
one_more u units is (last h) = last (and_from (is_name_unit u) (list_all is_name_unit units) is h)
one_more u units is (more name others h c e) = more (u ∷ name) others (and_from (is_name_unit u) (list_all is_name_unit name) is h) c (ap (λ (t : List ℕ). u ∷ t) e)

abbrev Continues : Bool → List ℕ → Type 0
Continues true units = IsClassName units
Continues false units = Behind units

continues : (fresh : Bool) (units : List ℕ) → ends_class_name fresh units ≡ true → Continues fresh units
unfolding ends_class_name
continues true [] e = absurd (false≢true e)
continues false [] e = last refl
continues true (u ∷ units) e =
    let p = and_parts (goes_on true u) (ends_class_name (eqb u slash) units) e in
    let is = fresh_unit u p.0 in
    first_name u units is (continues false units (ap (λ (b : Bool). ends_class_name b units) (sym (no_slash u is)) ∙ p.1))
continues false (u ∷ units) e =
    let p = and_parts (goes_on false u) (ends_class_name (eqb u slash) units) e in
    elim (cases_Bool (eqb u slash)) [
      | inl s ↦
          let others = continues true units (ap (λ (b : Bool). ends_class_name b units) (sym s) ∙ p.1) in
          more [] units refl others (ap (λ (x : ℕ). x ∷ units) (eqb-true u slash s))
      | inr n ↦ one_more u units (later_unit u p.0 n) (continues false units (ap (λ (b : Bool). ends_class_name b units) (sym n) ∙ p.1))
    ]

pub class_name_from_ends : (units : List ℕ) → ends_class_name true units ≡ true → IsClassName units
class_name_from_ends units e = continues true units e

-- ---- a class name passes the test

pub ends_on : (fresh : Bool) (u : ℕ) (units : List ℕ) → is_name_unit u ≡ true → ends_class_name fresh (u ∷ units) ≡ ends_class_name false units
unfolding ends_class_name
ends_on fresh u units is =
    let on : goes_on fresh u ≡ true = or_left (is_name_unit u) (not fresh && eqb u slash) is in
    let e : ends_class_name (eqb u slash) units ≡ ends_class_name false units = ap (λ (b : Bool). ends_class_name b units) (no_slash u is) in
    ap (λ (b : Bool). b && ends_class_name (eqb u slash) units) on ∙ e

ends_past : (name units : List ℕ) → list_all is_name_unit name ≡ true → ends_class_name false (name ++ units) ≡ ends_class_name false units
ends_past [] units h = refl
ends_past (u ∷ name) units h =
    let p = and_parts (is_name_unit u) (list_all is_name_unit name) h in
    ends_on false u (name ++ units) p.0 ∙ ends_past name units p.1

ends_name : (fresh : Bool) (name units : List ℕ) → IsUnqualifiedName name → ends_class_name fresh (name ++ units) ≡ ends_class_name false units
ends_name fresh [] units h = absurd (omega (arith, h.some))
ends_name fresh (u ∷ name) units h =
    let p = and_parts (is_name_unit u) (list_all is_name_unit name) (list_all-from_AllPass is_name_unit (u ∷ name) h.each) in
    ends_on fresh u (name ++ units) p.0 ∙ ends_past name units p.1

ends_slash : (units : List ℕ) → ends_class_name false (slash ∷ units) ≡ ends_class_name true units
unfolding ends_class_name
ends_slash units = refl

ends_none : ends_class_name false [] ≡ true
unfolding ends_class_name
ends_none = refl

ends_names : (names : List (List ℕ)) → 0 < length names → AllByRecursion IsUnqualifiedName names → ends_class_name true (join_with_byte slash names) ≡ true
ends_names [] lt h = absurd (omega arith)
ends_names (n ∷ []) lt h = ap (ends_class_name true) (sym (append-nil n)) ∙ ends_name true n [] h.0 ∙ ends_none
ends_names (n ∷ m ∷ names) lt h =
    let after = join_with_byte slash (m ∷ names) in
    ends_name true n (slash ∷ after) h.0 ∙ ends_slash after ∙ ends_names (m ∷ names) (omega arith) h.1

pub class_name_ends : (units : List ℕ) → IsClassName units → ends_class_name true units ≡ true
class_name_ends units c = ap (ends_class_name true) c.joined ∙ ends_names c.names c.some c.each
