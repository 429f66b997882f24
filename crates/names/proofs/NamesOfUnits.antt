-- A name by its units is a name by the bytes that spell them.
use Rattle.std.proofs.Common.{◌≡◌, ℕ, ◌+◌, ◌/◌, ◌%◌, ◌<◌, ◌≤◌, Bool, true, false, eqb, not, ◌&&◌, List, [], ◌∷◌, ◌++◌, length, refl, sym, ap, ◌∙◌, arith}
use Rattle.std.specs.Prelude.{◌↔◌}
use Rattle.std.specs.List.{list_all}
use Rattle.std.proofs.lemmas.Bool.Decides.{nat_tests}
use Rattle.std.proofs.lemmas.List.{length-append}
use Rattle.std.proofs.lemmas.List.Sums.{AllPass-from_list_all, list_all-from_AllPass}
use Rattle.names.specs.Texts.{unit, spelling}
use Rattle.names.specs.Names.{slash, is_name_unit, is_angle, IsUnqualifiedName, IsMethodName, IsClassName}
use Rattle.names.specs.Reading.{goes_on, ends_class_name}
use Rattle.names.proofs.UnitLaws.{Spelt, null, one, pair, triple, spelt, some_bytes}
use Rattle.names.proofs.ClassNameLaws.{ends_on, class_name_ends, class_name_from_ends}

high_name_unit : (b : ℕ) → 128 ≤ b → is_name_unit b ≡ true
high_name_unit b h = grind (arith, nat_tests)

high_no_angle : (b : ℕ) → 128 ≤ b → not (is_angle b) ≡ true
high_no_angle b h = grind (arith, nat_tests)

-- a test that only ASCII characters fail, over one unit
all_of_unit : (p : ℕ → Bool) → p 0 ≡ true → ((b : ℕ) → 128 ≤ b → p b ≡ true) → (u : ℕ) (bytes others : List ℕ) → Spelt u bytes → list_all p (bytes ++ others) ≡ (p u && list_all p others)
all_of_unit p z h u _ others (null e) = rw (e, z, h 192 (omega arith), h 128 (omega arith)) refl
all_of_unit p z h u _ others (one a b) = refl
all_of_unit p z h u _ others (pair a b) = rw (h u a, h (192 + u / 64) (omega arith), h (128 + u % 64) (omega arith)) refl
all_of_unit p z h u _ others (triple a) =
    rw (h u (omega arith), h (224 + u / 4096) (omega arith), h (128 + (u / 64) % 64) (omega arith), h (128 + u % 64) (omega arith)) refl

all_of_spelling : (p : ℕ → Bool) → p 0 ≡ true → ((b : ℕ) → 128 ≤ b → p b ≡ true) → (units : List ℕ) → list_all p (spelling units) ≡ list_all p units
all_of_spelling p z h [] = refl
all_of_spelling p z h (u ∷ units) = all_of_unit p z h u (unit u) (spelling units) (spelt u) ∙ ap (λ (b : Bool). p u && b) (all_of_spelling p z h units)

some_units : (units : List ℕ) → 0 < length (spelling units) → 0 < length units
some_units [] h = h
some_units (u ∷ units) h = omega arith

some_spelled : (units : List ℕ) → 0 < length units → 0 < length (spelling units)
some_spelled [] h = h
some_spelled (u ∷ units) h = omega (arith, some_bytes u, length-append (unit u) (spelling units))

pub unqualified_name_of_units : (units : List ℕ) → IsUnqualifiedName (spelling units) ↔ IsUnqualifiedName units
unqualified_name_of_units units =
    let same = all_of_spelling is_name_unit refl high_name_unit units in (
      λ n. record { some = some_units units n.some; each = AllPass-from_list_all is_name_unit units (sym same ∙ list_all-from_AllPass is_name_unit (spelling units) n.each) },
      λ n. record { some = some_spelled units n.some; each = AllPass-from_list_all is_name_unit (spelling units) (same ∙ list_all-from_AllPass is_name_unit units n.each) },
    )

abbrev no_angle : ℕ → Bool
no_angle u = not (is_angle u)

pub method_name_of_units : (units : List ℕ) → IsMethodName (spelling units) ↔ IsMethodName units
method_name_of_units units =
    let same = all_of_spelling no_angle refl high_no_angle units in
    let name = unqualified_name_of_units units in (
      λ n. record { unqualified = name.0 n.unqualified; no_angle = AllPass-from_list_all no_angle units (sym same ∙ list_all-from_AllPass no_angle (spelling units) n.no_angle) },
      λ n. record { unqualified = name.1 n.unqualified; no_angle = AllPass-from_list_all no_angle (spelling units) (same ∙ list_all-from_AllPass no_angle units n.no_angle) },
    )

-- one unit in a class name, as bytes or as itself
ends_unit : (fresh : Bool) (u : ℕ) (bytes others units : List ℕ) → Spelt u bytes → ((f : Bool) → ends_class_name f others ≡ ends_class_name f units) → ends_class_name fresh (bytes ++ others) ≡ ends_class_name fresh (u ∷ units)
unfolding ends_class_name
ends_unit fresh u _ others units (null e) same =
    ends_on fresh 192 (128 ∷ others) refl ∙ ends_on false 128 others refl ∙ same false ∙ sym (ends_on fresh 0 units refl) ∙ ap (λ (x : ℕ). ends_class_name fresh (x ∷ units)) (sym e)
ends_unit fresh u _ others units (one a b) same = ap (λ (t : Bool). goes_on fresh u && t) (same (eqb u slash))
ends_unit fresh u _ others units (pair a b) same =
    ends_on fresh (192 + u / 64) ((128 + u % 64) ∷ others) (high_name_unit (192 + u / 64) (omega arith))
    ∙ ends_on false (128 + u % 64) others (high_name_unit (128 + u % 64) (omega arith))
    ∙ same false
    ∙ sym (ends_on fresh u units (high_name_unit u a))
ends_unit fresh u _ others units (triple a) same =
    ends_on fresh (224 + u / 4096) ((128 + (u / 64) % 64) ∷ (128 + u % 64) ∷ others) (high_name_unit (224 + u / 4096) (omega arith))
    ∙ ends_on false (128 + (u / 64) % 64) ((128 + u % 64) ∷ others) (high_name_unit (128 + (u / 64) % 64) (omega arith))
    ∙ ends_on false (128 + u % 64) others (high_name_unit (128 + u % 64) (omega arith))
    ∙ same false
    ∙ sym (ends_on fresh u units (high_name_unit u (omega arith)))

ends_of_spelling : (units : List ℕ) (fresh : Bool) → ends_class_name fresh (spelling units) ≡ ends_class_name fresh units
ends_of_spelling [] fresh = refl
ends_of_spelling (u ∷ units) fresh = ends_unit fresh u (unit u) (spelling units) units (spelt u) (λ f. ends_of_spelling units f)

pub class_name_of_units : (units : List ℕ) → IsClassName (spelling units) ↔ IsClassName units
class_name_of_units units =
    let same = ends_of_spelling units true in (
      λ n. class_name_from_ends units (sym same ∙ class_name_ends (spelling units) n),
      λ n. class_name_from_ends (spelling units) (same ∙ class_name_ends units n),
    )
