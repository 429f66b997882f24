-- Loops that search a place in so many parts of a kind.
use Rattle.std.proofs.Common.{◌≡◌, ◌∙◌, ℕ, suc, ◌+◌, ◌-◌, ◌<◌, ◌≤◌, Bool, Option, Some, Ok, Err, sym, ap, arith}
use Rattle.std.specs.Prelude.{nat_eq}
use Rattle.layout.specs.Place.{Place}
use Rattle.classfile.specs.declared.file_parts.FilePart.{FilePart}
use Rattle.classfile.specs.declared.form_fault.Place.{Place as Holder}
use Rattle.classfile.specs.Outline.{indexed, attribute}
use Rattle.classfile.specs.FileParts.{Search, then_search, search_in, constant_of, attribute_of, search_constants, search_attributes, search_member, search_members}
use Rattle.classfile.proofs.Outlines.{at_last}

goes_on : {V : Type 0} (step : Search V) (others : V → Place → Search (Unit {0})) (total : Search (Unit {0})) (v : V) (p : Place)
    → step ≡ Ok (v, p) → then_search step others ≡ total → others v p ≡ total
goes_on step others total v p is so_far = sym (ap (λ s. then_search s others) is) ∙ so_far

stops : {V : Type 0} (step : Search V) (others : V → Place → Search (Unit {0})) (total : Search (Unit {0})) (part : Option FilePart)
    → step ≡ Err part → then_search step others ≡ total → total ≡ Err part
stops step others total part is so_far = sym so_far ∙ ap (λ s. then_search s others) is

module _ (at : ℕ) where
  -- ---- attributes

  pub attributes_on : (holder : Holder) (count i : ℕ) (here p : Place) (total : Search (Unit {0})) → i < count
      → search_in at (Some (attribute_of holder i)) attribute here ≡ Ok (tt, p)
      → search_attributes at holder (count - i) i here ≡ total → search_attributes at holder (count - (i + 1)) (i + 1) p ≡ total
  unfolding search_attributes
  attributes_on holder count i here p total lt step so_far =
      let is : count - i ≡ suc (count - (i + 1)) = omega arith in
      goes_on (search_in at (Some (attribute_of holder i)) attribute here) (λ skipped. search_attributes at holder (count - (i + 1)) (i + 1)) total tt p step
      (sym (ap (λ (k : ℕ). search_attributes at holder k i here) is) ∙ so_far)

  pub attributes_stop : (holder : Holder) (count i : ℕ) (here : Place) (part : Option FilePart) (total : Search (Unit {0})) → i < count
      → search_in at (Some (attribute_of holder i)) attribute here ≡ Err part
      → search_attributes at holder (count - i) i here ≡ total → total ≡ Err part
  unfolding search_attributes
  attributes_stop holder count i here part total lt step so_far =
      let is : count - i ≡ suc (count - (i + 1)) = omega arith in
      stops (search_in at (Some (attribute_of holder i)) attribute here) (λ skipped. search_attributes at holder (count - (i + 1)) (i + 1)) total part step
      (sym (ap (λ (k : ℕ). search_attributes at holder k i here) is) ∙ so_far)

  pub attributes_end : (holder : Holder) (count i : ℕ) (here : Place) (total : Search (Unit {0})) → count ≤ i
      → search_attributes at holder (count - i) i here ≡ total → total ≡ Ok (tt, here)
  unfolding search_attributes
  attributes_end holder count i here total le so_far =
      let is : count - i ≡ 0 = omega arith in
      sym so_far ∙ ap (λ (k : ℕ). search_attributes at holder k i here) is

  -- ---- fields and methods

  pub members_on : (kind : ℕ → Holder) (count i : ℕ) (here p : Place) (total : Search (Unit {0})) → i < count
      → search_member at (kind i) here ≡ Ok (tt, p)
      → search_members at kind (count - i) i here ≡ total → search_members at kind (count - (i + 1)) (i + 1) p ≡ total
  unfolding search_members
  members_on kind count i here p total lt step so_far =
      let is : count - i ≡ suc (count - (i + 1)) = omega arith in
      goes_on (search_member at (kind i) here) (λ skipped. search_members at kind (count - (i + 1)) (i + 1)) total tt p step
      (sym (ap (λ (k : ℕ). search_members at kind k i here) is) ∙ so_far)

  pub members_stop : (kind : ℕ → Holder) (count i : ℕ) (here : Place) (part : Option FilePart) (total : Search (Unit {0})) → i < count
      → search_member at (kind i) here ≡ Err part
      → search_members at kind (count - i) i here ≡ total → total ≡ Err part
  unfolding search_members
  members_stop kind count i here part total lt step so_far =
      let is : count - i ≡ suc (count - (i + 1)) = omega arith in
      stops (search_member at (kind i) here) (λ skipped. search_members at kind (count - (i + 1)) (i + 1)) total part step
      (sym (ap (λ (k : ℕ). search_members at kind k i here) is) ∙ so_far)

  pub members_end : (kind : ℕ → Holder) (count i : ℕ) (here : Place) (total : Search (Unit {0})) → count ≤ i
      → search_members at kind (count - i) i here ≡ total → total ≡ Ok (tt, here)
  unfolding search_members
  members_end kind count i here total le so_far =
      let is : count - i ≡ 0 = omega arith in
      sym so_far ∙ ap (λ (k : ℕ). search_members at kind k i here) is

  -- ---- constants

  abbrev at_index : ℕ → Bool → Bool → Place → Search Bool
  at_index i second last here = search_in at (Some (constant_of (i + 1) here.rest)) (indexed second last) here

  pub constants_on : (count i : ℕ) (second next : Bool) (here p : Place) (total : Search (Unit {0})) → i < count
      → at_index i second (nat_eq (i + 1) count) here ≡ Ok (next, p)
      → search_constants at (count - i) (i + 1) second here ≡ total → search_constants at (count - (i + 1)) (i + 1 + 1) next p ≡ total
  unfolding search_constants
  constants_on count i second next here p total lt step so_far =
      let is : count - i ≡ suc (count - (i + 1)) = omega arith in
      goes_on (at_index i second (nat_eq (count - (i + 1)) 0) here) (search_constants at (count - (i + 1)) (i + 1 + 1)) total next p
      (sym (ap (λ (last : Bool). at_index i second last here) (at_last count i lt)) ∙ step)
      (sym (ap (λ (k : ℕ). search_constants at k (i + 1) second here) is) ∙ so_far)

  pub constants_stop : (count i : ℕ) (second : Bool) (here : Place) (part : Option FilePart) (total : Search (Unit {0})) → i < count
      → at_index i second (nat_eq (i + 1) count) here ≡ Err part
      → search_constants at (count - i) (i + 1) second here ≡ total → total ≡ Err part
  unfolding search_constants
  constants_stop count i second here part total lt step so_far =
      let is : count - i ≡ suc (count - (i + 1)) = omega arith in
      stops (at_index i second (nat_eq (count - (i + 1)) 0) here) (search_constants at (count - (i + 1)) (i + 1 + 1)) total part
      (sym (ap (λ (last : Bool). at_index i second last here) (at_last count i lt)) ∙ step)
      (sym (ap (λ (k : ℕ). search_constants at k (i + 1) second here) is) ∙ so_far)

  pub constants_end : (count i : ℕ) (second : Bool) (here : Place) (total : Search (Unit {0})) → count ≤ i
      → search_constants at (count - i) (i + 1) second here ≡ total → total ≡ Ok (tt, here)
  unfolding search_constants
  constants_end count i second here total le so_far =
      let is : count - i ≡ 0 = omega arith in
      sym so_far ∙ ap (λ (k : ℕ). search_constants at k (i + 1) second here) is
