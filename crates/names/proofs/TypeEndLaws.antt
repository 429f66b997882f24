-- Types that end at a place are those that the readers find.
use Rattle.std.proofs.Common.{◌≡◌, ℕ, zero, suc, ◌+◌, ◌-◌, ◌<◌, ◌≤◌, Bool, true, false, not, ◌&&◌, ◌||◌, eqb, List, [], ◌∷◌, length, get_or, drop, Option, Some, None, refl, sym, ap, ◌∙◌, arith, subst, eqb-true, ne_eqb}
use Rattle.std.proofs.lemmas.List.{drop_more, drop-drop, get_or-drop}
use Rattle.std.proofs.lemmas.List.Sums.{prefix_len_passes}
use Rattle.std.proofs.lemmas.Bool.{and_right, le-ltb, false≢true}
use Rattle.std.specs.Option.{is_some}
use Rattle.std.specs.Prelude.{◌==◌}
use Rattle.names.specs.Names.{slash, semicolon, bracket, is_name_unit}
use Rattle.names.specs.declared.base.Primitive.{Primitive}
use Rattle.names.specs.declared.base.Primitive.TheVariants.{Byte, Char, Double, Float, Int, Long, Short, Boolean}
use Rattle.names.specs.Descriptors.{FieldDescriptor, primitive, class, letter, class_letter, dimensioned, dimensions, field_width}
use Rattle.names.specs.Reading.{found, mapped, goes_on, read_class, read_base, read_field, primitive_of}
use Rattle.names.specs.private.TypeEnds.{goes_on_at, GoesOnUpTo, is_letter, units_of, ReadsBase, ReadsType}
use Rattle.names.proofs.FieldReader.{class_on, class_end, field_base, primitive_has_letter}
use Rattle.names.proofs.Steps.{brackets, base_is_class, base_is_primitive, field_is_read}

-- ---- class names

-- after these bytes a class name ends with the ';' in front of the others
abbrev pub NamesUpTo : Bool → List ℕ → List ℕ → Type 0
NamesUpTo fresh bytes rest = (name : List ℕ) × (read_class fresh bytes ≡ found name rest)

name_to_end : (bytes : List ℕ) (end n k : ℕ) → k + n ≡ end → end < length bytes → get_or bytes end 0 ≡ semicolon → (get_or bytes (end - 1) 0 ≡ slash → ⊥)
    → ((j : ℕ) → k ≤ j → j < end → goes_on_at bytes j ≡ true) → NamesUpTo (eqb (get_or bytes (k - 1) 0) slash) (drop k bytes) (drop (end + 1) bytes)
name_to_end bytes end zero k at within ends later goes =
    let here : end ≡ k = omega (arith, at) in
    let old : eqb (get_or bytes (end - 1) 0) slash ≡ false = ne_eqb (get_or bytes (end - 1) 0) slash later in
    subst (λ p. NamesUpTo (eqb (get_or bytes (p - 1) 0) slash) (drop p bytes) (drop (end + 1) bytes)) here
    ([], (λ i. read_class (old i) (drop_more bytes end 0 within i)) ∙ class_end false (get_or bytes end 0) (drop (end + 1) bytes) (ap (goes_on false) ends) (ap (λ b. eqb b semicolon) ends))
name_to_end bytes end (suc n) k at within ends later goes =
    let next : (k + 1) - 1 ≡ k = omega arith in
    let rest = name_to_end bytes end n (k + 1) (omega (arith, at)) within ends later (λ j from to. goes j (omega (arith, from)) to) in (
      get_or bytes k 0 ∷ rest.0,
      ap (read_class (eqb (get_or bytes (k - 1) 0) slash)) (drop_more bytes k 0 (omega (arith, at, within)))
          ∙ class_on (eqb (get_or bytes (k - 1) 0) slash) (get_or bytes k 0) (drop (k + 1) bytes) (goes k (omega arith) (omega (arith, at)))
          ∙ ap (mapped (λ name. get_or bytes k 0 ∷ name)) (ap (λ p. read_class (eqb (get_or bytes p 0) slash) (drop (k + 1) bytes)) (sym next) ∙ rest.1),
    )

-- a byte that is no '/' goes on with a name that has to begin too
begins_too : (fresh : Bool) (b : ℕ) → (b ≡ slash → ⊥) → goes_on fresh b ≡ true → goes_on true b ≡ true
begins_too fresh b other on = by_unit (is_name_unit b) refl
  where
    by_unit : (u : Bool) → is_name_unit b ≡ u → goes_on true b ≡ true
    by_unit true is = ap (λ (u : Bool). u || (not true && eqb b slash)) is
    by_unit false is =
        absurd (false≢true (sym (ap (λ (u : Bool). u || (not fresh && eqb b slash)) is ∙ and_right (not fresh) (eqb b slash) (ne_eqb b slash other)) ∙ on))

class_name_to_end : (bytes : List ℕ) (start end : ℕ) → GoesOnUpTo bytes start end → start < end → end < length bytes → get_or bytes end 0 ≡ semicolon → (get_or bytes start 0 ≡ slash → ⊥)
    → (get_or bytes (end - 1) 0 ≡ slash → ⊥) → NamesUpTo true (drop start bytes) (drop (end + 1) bytes)
class_name_to_end bytes start end run some within ends first later =
    let b = get_or bytes start 0 in
    let next : (start + 1) - 1 ≡ start = omega arith in
    let rest = name_to_end bytes end (end - (start + 1)) (start + 1) (omega (arith, some)) within ends later (λ j from to. run.goes j (omega (arith, from)) to) in (
      b ∷ rest.0,
      ap (read_class true) (drop_more bytes start 0 (omega (arith, some, within)))
          ∙ class_on true b (drop (start + 1) bytes) (begins_too (eqb (get_or bytes (start - 1) 0) slash) b first (run.goes start (omega arith) some))
          ∙ ap (mapped (λ name. b ∷ name)) (ap (λ p. read_class (eqb (get_or bytes p 0) slash) (drop (start + 1) bytes)) (sym next) ∙ rest.1),
    )

-- ---- types that are no arrays

pub class_to_end : (bytes : List ℕ) (at end : ℕ) → get_or bytes at 0 ≡ class_letter → GoesOnUpTo bytes (at + 1) end → at + 1 < end → end < length bytes → get_or bytes end 0 ≡ semicolon
    → (get_or bytes (at + 1) 0 ≡ slash → ⊥) → (get_or bytes (end - 1) 0 ≡ slash → ⊥) → ReadsBase bytes at (end + 1)
class_to_end bytes at end is run some within ends first later =
    let name = class_name_to_end bytes (at + 1) end run some within ends first later in
    record {
      type = class name.0;
      within = omega (arith, within);
      reads = base_is_class (drop at bytes) (drop (at + 1) bytes) name.0 (drop (end + 1) bytes) (get_or bytes at 0) (drop_more bytes at 0 (omega (arith, some, within))) is name.1;
      flat = refl;
      width = sym (ap units_of is);
    }

width_of_letter : (p : Primitive) → field_width (primitive p) ≡ units_of (letter p)
width_of_letter Byte = refl
width_of_letter Char = refl
width_of_letter Double = refl
width_of_letter Float = refl
width_of_letter Int = refl
width_of_letter Long = refl
width_of_letter Short = refl
width_of_letter Boolean = refl

pub letter_to_end : (bytes : List ℕ) (at : ℕ) → at < length bytes → is_letter (get_or bytes at 0) ≡ true → (get_or bytes at 0 ≡ class_letter → ⊥) → ReadsBase bytes at (at + 1)
letter_to_end bytes at within is other = by_primitive (primitive_of (get_or bytes at 0)) refl is
  where
    by_primitive : (o : Option Primitive) → primitive_of (get_or bytes at 0) ≡ o → is_some o ≡ true → ReadsBase bytes at (at + 1)
    by_primitive None e h = absurd (false≢true h)
    by_primitive (Some p) e h = record {
      type = primitive p;
      within = omega (arith, within);
      reads = base_is_primitive (drop at bytes) (drop (at + 1) bytes) (get_or bytes at 0) p (drop_more bytes at 0 within) other (sym e);
      flat = refl;
      width = width_of_letter p ∙ ap units_of (sym (primitive_has_letter (get_or bytes at 0) p e));
    }

-- ---- types

depth : (d : ℕ) (t : FieldDescriptor) → dimensions (dimensioned d t) ≡ d + dimensions t
depth zero t = omega arith
depth (suc d) t = omega (arith, depth d t)

module _ (bytes rest : List ℕ) (at d end : ℕ) (is_rest : rest ≡ drop at bytes) (counted : d ≡ brackets rest) (base : ReadsBase bytes (at + d) end) where
  count : d ≡ brackets (drop at bytes)
  count = counted ∙ ap brackets is_rest

  width_is : (n : ℕ) → d ≡ n → field_width (dimensioned n base.type) ≡ units_of (get_or bytes at 0)
  width_is zero none =
      let here : at + d ≡ at = omega (arith, none) in
      base.width ∙ ap (λ p. units_of (get_or bytes p 0)) here
  width_is (suc n) some =
      let plain : at + 0 ≡ at = omega arith in
      let first = prefix_len_passes (λ b. b == bracket) (drop at bytes) 0 0 (omega (arith, some, count)) in
      let is : get_or bytes at 0 ≡ bracket = sym (get_or-drop at bytes 0 0 ∙ ap (λ p. get_or bytes p 0) plain) ∙ eqb-true _ _ first in
      sym (ap units_of is)

  pub type_to_end : d ≤ 255 → ReadsType bytes at end
  type_to_end few =
      let flat = base.flat in
      let deep = depth d base.type in
      record {
        type = dimensioned d base.type;
        within = base.within;
        reads = field_is_read (drop at bytes) (drop (at + d) bytes) (drop end bytes) d base.type count (sym (drop-drop d at bytes)) base.reads;
        shallow = le-ltb 255 (dimensions (dimensioned d base.type)) (omega (arith, flat, deep, few));
        width = width_is d refl;
      }

pub base_to_end : (bytes : List ℕ) (at end : ℕ) → at < length bytes → (get_or bytes at 0 ≡ bracket → ⊥) → ReadsBase bytes at end → ReadsType bytes at end
base_to_end bytes at end within other base =
    let flat = base.flat in
    let is = drop_more bytes at 0 within in
    record {
      type = base.type;
      within = base.within;
      reads = ap read_field is ∙ field_base (get_or bytes at 0) (drop (at + 1) bytes) (ne_eqb (get_or bytes at 0) bracket other) ∙ ap read_base (sym is) ∙ base.reads;
      shallow = le-ltb 255 (dimensions base.type) (omega (arith, flat));
      width = base.width;
    }
