-- The forms of names of a text, found byte by byte.
use Rattle.std.proofs.Common.{◌≡◌, ℕ, ◌+◌, ◌<◌, Bool, true, false, not, eqb, ◌&&◌, ◌||◌, List, ◌∷◌, length, get_or, drop, refl, sym, ap, subst, ◌∙◌, arith, ne_eqb, ◌≤◌, eqb-true, eq-eqb}
use Rattle.std.specs.List.{list_all}
use Rattle.std.proofs.lemmas.List.Folds.{list_all_at}
use Rattle.std.proofs.lemmas.List.{drop_more, drop_all}
use Rattle.std.proofs.lemmas.List.Sums.{AllPass-from_list_all, list_all-from_AllPass}
use Rattle.std.proofs.lemmas.Bool.{and_parts, and_from, false≢true, or_parts, eqb-false}
use Rattle.names.specs.Names.{dot, slash, semicolon, bracket, is_name_unit, is_angle, IsUnqualifiedName, IsMethodName}
use Rattle.names.specs.Reading.{goes_on, ends_class_name}
use Rattle.names.specs.Forms.{AreNameForms}
use Rattle.names.proofs.Scan.{IsPlain, plain_goes_on, not_first, unit_no_slash, on_by_unit, on_by_slash, scan_ends, class_to_the_end, no_class_there}

abbrev pub is_no_angle : ℕ → Bool
is_no_angle u = not (is_angle u)

-- what the bytes up to a place tell
pub record Scanning (bytes : List ℕ) (at : ℕ) (fresh has_slash has_angle : Bool) : Type 0 where
  pub ends : ends_class_name true bytes ≡ ends_class_name fresh (drop at bytes)
  pub units : list_all is_name_unit bytes ≡ (not has_slash && list_all is_name_unit (drop at bytes))
  pub angles : list_all is_no_angle bytes ≡ (not has_angle && list_all is_no_angle (drop at bytes))
  pub begun : has_slash ≡ false → fresh ≡ eqb at 0

pub at_first : (bytes : List ℕ) → Scanning bytes 0 true false false
at_first bytes = record { ends = refl; units = refl; angles = refl; begun = λ h. refl }

-- ---- one byte more

-- a byte with which a class name goes on is a unit of names, or the slash between two
unit_or_slash : (fresh : Bool) (b : ℕ) → goes_on fresh b ≡ true → is_name_unit b ≡ not (eqb b slash)
unit_or_slash fresh b on = by_tests (eqb b dot) (eqb b semicolon) (eqb b bracket) (eqb b slash) on
  where
    nothing : (f : Bool) → (not f && false) ≡ true → ⊥
    nothing true h = false≢true h
    nothing false h = false≢true h

    by_tests : (d s k l : Bool) → (not (d || s || k || l) || (not fresh && l)) ≡ true → not (d || s || k || l) ≡ not l
    by_tests false false false l h = refl
    by_tests true s k true h = refl
    by_tests true s k false h = absurd (nothing fresh h)
    by_tests false true k true h = refl
    by_tests false true k false h = absurd (nothing fresh h)
    by_tests false false true true h = refl
    by_tests false false true false h = absurd (nothing fresh h)

both_slashes : (before here rest : Bool) → (not before && (not here && rest)) ≡ (not (before || here) && rest)
both_slashes true here rest = refl
both_slashes false true rest = refl
both_slashes false false rest = refl

left_one_more : (p : ℕ → Bool) (bytes : List ℕ) (at : ℕ) (before here : Bool) → at < length bytes → p (get_or bytes at 0) ≡ not here
    → list_all p bytes ≡ (not before && list_all p (drop at bytes)) → list_all p bytes ≡ (not (before || here) && list_all p (drop (at + 1) bytes))
left_one_more p bytes at before here lt is so_far =
    so_far
    ∙ ap (λ (x : List ℕ). not before && list_all p x) (drop_more bytes at 0 lt)
    ∙ ap (λ (x : Bool). not before && (x && list_all p (drop (at + 1) bytes))) is
    ∙ both_slashes before here (list_all p (drop (at + 1) bytes))

pub one_byte_more : (bytes : List ℕ) (at : ℕ) (fresh has_slash has_angle : Bool) → at < length bytes → goes_on fresh (get_or bytes at 0) ≡ true
    → Scanning bytes at fresh has_slash has_angle
    → Scanning bytes (at + 1) (eqb (get_or bytes at 0) slash) (has_slash || eqb (get_or bytes at 0) slash) (has_angle || is_angle (get_or bytes at 0))
one_byte_more bytes at fresh has_slash has_angle lt on s =
    let b = get_or bytes at 0 in
    record {
      ends = scan_ends bytes at fresh lt on s.ends;
      units = left_one_more is_name_unit bytes at has_slash (eqb b slash) lt (unit_or_slash fresh b on) s.units;
      angles = left_one_more is_no_angle bytes at has_angle (is_angle b) lt refl s.angles;
      begun = λ h. (or_parts has_slash (eqb b slash) h).1 ∙ later at;
    }
  where
    later : (n : ℕ) → false ≡ eqb (n + 1) 0
    later n = sym (ne_eqb (n + 1) 0 (λ h. omega (arith, h)))

-- ---- a plain byte more

with_flags : (bytes : List ℕ) (at : ℕ) (f g s t a c : Bool) → f ≡ g → s ≡ t → a ≡ c → Scanning bytes at f s a → Scanning bytes at g t c
with_flags bytes at f g s t a c fresh has_slash has_angle h =
    subst (λ x. Scanning bytes at x t c) fresh (subst (λ x. Scanning bytes at f x c) has_slash (subst (λ x. Scanning bytes at f s x) has_angle h))

or_nothing : (a b : Bool) → b ≡ false → (a || b) ≡ a
or_nothing true b h = refl
or_nothing false b h = h

pub plain_more : (bytes : List ℕ) (at : ℕ) (fresh has_slash has_angle : Bool) → at < length bytes → IsPlain (get_or bytes at 0)
    → Scanning bytes at fresh has_slash has_angle → Scanning bytes (at + 1) false has_slash has_angle
plain_more bytes at fresh has_slash has_angle lt plain s =
    with_flags bytes (at + 1) _ _ _ _ _ _ plain.no_slash (or_nothing has_slash _ plain.no_slash) (or_nothing has_angle _ plain.no_angle)
    (one_byte_more bytes at fresh has_slash has_angle lt (plain_goes_on fresh (get_or bytes at 0) plain) s)

-- ---- a byte more in a name that begins at `start`

pub record InName (bytes : List ℕ) (at start : ℕ) (has_angle : Bool) : Type 0 where
  pub behind : start ≤ at
  pub scanning : Scanning bytes at (eqb at start) (not (eqb start 0)) has_angle

pub in_name_first : (bytes : List ℕ) → InName bytes 0 0 false
in_name_first bytes = record { behind = omega arith; scanning = at_first bytes }

pub plain_in_name : (bytes : List ℕ) (at start : ℕ) (has_angle : Bool) → at < length bytes → IsPlain (get_or bytes at 0) → InName bytes at start has_angle → InName bytes (at + 1) start has_angle
plain_in_name bytes at start has_angle lt plain n =
    record {
      behind = let b = n.behind in omega (arith, b);
      scanning = with_flags bytes (at + 1) _ _ _ _ _ _ (sym (not_first at start n.behind)) refl refl (plain_more bytes at (eqb at start) (not (eqb start 0)) has_angle lt plain n.scanning);
    }

pub slash_in_name : (bytes : List ℕ) (at start : ℕ) (has_angle : Bool) → at < length bytes → eqb (get_or bytes at 0) slash ≡ true → eqb at start ≡ false → InName bytes at start has_angle
    → InName bytes (at + 1) (at + 1) has_angle
slash_in_name bytes at start has_angle lt is later n =
    record {
      behind = omega arith;
      scanning =
          with_flags bytes (at + 1) _ _ _ _ _ _ (is ∙ sym (eq-eqb (at + 1) (at + 1) refl)) (has_one (not (eqb start 0)) _ _ is (not_first at 0 (omega arith))) (or_nothing has_angle _ no_angle)
          (one_byte_more bytes at (eqb at start) (not (eqb start 0)) has_angle lt (on_by_slash (eqb at start) (get_or bytes at 0) later is) n.scanning);
    }
  where
    has_one : (before here zero : Bool) → here ≡ true → zero ≡ false → (before || here) ≡ not zero
    has_one true here zero h z = ap not (sym z)
    has_one false here zero h z = h ∙ ap not (sym z)

    no_angle : is_angle (get_or bytes at 0) ≡ false
    no_angle = ap is_angle (eqb-true (get_or bytes at 0) slash is)

pub unit_in_name : (bytes : List ℕ) (at start : ℕ) (has_angle : Bool) → at < length bytes → is_name_unit (get_or bytes at 0) ≡ true → InName bytes at start has_angle
    → InName bytes (at + 1) start (has_angle || is_angle (get_or bytes at 0))
unit_in_name bytes at start has_angle lt unit n =
    let no_slash = unit_no_slash (get_or bytes at 0) unit in
    record {
      behind = let b = n.behind in omega (arith, b);
      scanning =
          with_flags bytes (at + 1) _ _ _ _ _ _ (no_slash ∙ sym (not_first at start n.behind)) (or_nothing (not (eqb start 0)) _ no_slash) refl
          (one_byte_more bytes at (eqb at start) (not (eqb start 0)) has_angle lt (on_by_unit (eqb at start) (get_or bytes at 0) unit) n.scanning);
    }

-- ---- the end

all_left : (p : ℕ → Bool) (bytes : List ℕ) (at : ℕ) (before : Bool) → at ≡ length bytes → list_all p bytes ≡ (not before && list_all p (drop at bytes)) → list_all p bytes ≡ not before
all_left p bytes at before all so_far = so_far ∙ ap (λ (x : List ℕ). not before && list_all p x) (drop_all at bytes (omega (arith, all))) ∙ plain before
  where
    plain : (b : Bool) → (not b && true) ≡ not b
    plain true = refl
    plain false = refl

not_false : (b : Bool) → not b ≡ true → b ≡ false
not_false true h = absurd (false≢true h)
not_false false h = refl

pub at_the_end : (bytes : List ℕ) (at : ℕ) (fresh has_slash has_angle : Bool) → at ≡ length bytes → Scanning bytes at fresh has_slash has_angle
    → AreNameForms bytes (record { class_name = not fresh; unqualified_name = not fresh && not has_slash; method_name = (not fresh && not has_slash) && not has_angle })
at_the_end bytes at fresh has_slash has_angle all s =
    record { class = class_to_the_end bytes at fresh all s.ends; unqualified = (unqualified, is_unqualified); method = (method, is_method) }
  where
    units : list_all is_name_unit bytes ≡ not has_slash
    units = all_left is_name_unit bytes at has_slash all s.units

    angles : list_all is_no_angle bytes ≡ not has_angle
    angles = all_left is_no_angle bytes at has_angle all s.angles

    some : has_slash ≡ false → fresh ≡ false → 0 < length bytes
    some no_slash later =
        let moved = eqb-false at 0 (sym (s.begun no_slash) ∙ later) in
        omega (arith, moved, all)

    unqualified : (not fresh && not has_slash) ≡ true → IsUnqualifiedName bytes
    unqualified h =
        let p = and_parts (not fresh) (not has_slash) h in
        record { some = some (not_false has_slash p.1) (not_false fresh p.0); each = AllPass-from_list_all is_name_unit bytes (units ∙ p.1) }

    is_unqualified : IsUnqualifiedName bytes → (not fresh && not has_slash) ≡ true
    is_unqualified n =
        let no_slash = sym units ∙ list_all-from_AllPass is_name_unit bytes n.each in
        and_from (not fresh) (not has_slash) (ap not (s.begun (not_false has_slash no_slash) ∙ ne_eqb at 0 (λ h. omega (arith, h, all, n.some)))) no_slash

    method : ((not fresh && not has_slash) && not has_angle) ≡ true → IsMethodName bytes
    method h =
        let p = and_parts (not fresh && not has_slash) (not has_angle) h in
        record { unqualified = unqualified p.0; no_angle = AllPass-from_list_all is_no_angle bytes (angles ∙ p.1) }

    is_method : IsMethodName bytes → ((not fresh && not has_slash) && not has_angle) ≡ true
    is_method n = and_from (not fresh && not has_slash) (not has_angle) (is_unqualified n.unqualified) (sym angles ∙ list_all-from_AllPass is_no_angle bytes n.no_angle)

-- ---- a byte with which no name goes on

heads : (a b : ℕ) (x y : List ℕ) → a ∷ x ≡ b ∷ y → a ≡ b
heads a b x y h = cc

pub stopped : (bytes : List ℕ) (at : ℕ) (fresh has_slash has_angle : Bool) → at < length bytes → goes_on fresh (get_or bytes at 0) ≡ false
    → Scanning bytes at fresh has_slash has_angle → AreNameForms bytes (record { class_name = false; unqualified_name = false; method_name = false })
stopped bytes at fresh has_slash has_angle lt off s =
    record {
      class = (λ h. absurd (false≢true h), λ c. absurd (no_class_there bytes at fresh lt stops s.ends c));
      unqualified = (λ h. absurd (false≢true h), λ n. absurd (no_name n));
      method = (λ h. absurd (false≢true h), λ n. absurd (no_name n.unqualified));
    }
  where
    stops : (b : ℕ) (rest : List ℕ) → drop at bytes ≡ b ∷ rest → goes_on fresh b ≡ false
    stops b rest is = ap (goes_on fresh) (sym (heads _ _ _ _ (sym (drop_more bytes at 0 lt) ∙ is))) ∙ off

    no_name : IsUnqualifiedName bytes → ⊥
    no_name n =
        let no_unit = (or_parts (is_name_unit (get_or bytes at 0)) (not fresh && eqb (get_or bytes at 0) slash) off).0 in
        false≢true (sym (list_all_at is_name_unit bytes at 0 lt no_unit) ∙ list_all-from_AllPass is_name_unit bytes n.each)

not_not : (b : Bool) → not (not b) ≡ b
not_not true = refl
not_not false = refl

pub in_name_at_the_end : (bytes : List ℕ) (at start : ℕ) (has_angle : Bool) → at ≡ length bytes → InName bytes at start has_angle
    → AreNameForms bytes (record { class_name = not (eqb at start); unqualified_name = not (eqb at start) && eqb start 0; method_name = (not (eqb at start) && eqb start 0) && not has_angle })
in_name_at_the_end bytes at start has_angle all n =
    subst (λ x. AreNameForms bytes (record { class_name = not (eqb at start); unqualified_name = not (eqb at start) && x; method_name = (not (eqb at start) && x) && not has_angle })) (not_not (eqb start 0))
    (at_the_end bytes at (eqb at start) (not (eqb start 0)) has_angle all n.scanning)
