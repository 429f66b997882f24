-- The first method of a class that overrides a final one, by the final methods of the class directly above it.
use Rattle.std.proofs.Common.{◌≡◌, ◌↔◌, ◌⊎◌, inl, inr, ◌&&◌, ◌∙◌, ℕ, zero, suc, Bool, true, false, not, nat_eq, ◌<◌, List, [], ◌∷◌, length, slice_get, Option, Some, None, IsSome, refl, ap, sym, arith}
use Rattle.std.specs.Prelude.{IsTrue}
use Rattle.std.specs.BTreeMap.{btree_map_len}
use Rattle.std.specs.Borrow.{Bor}
use Rattle.std.specs.List.{filter, list_any}
use Rattle.std.specs.Option.{option_map_or}
use Rattle.std.specs.Str.{bytes_eq}
use Rattle.std.proofs.lemmas.Bool.{false≢true}
use Rattle.std.proofs.lemmas.List.{length-map}
use Rattle.std.proofs.lemmas.Option.{slice_get_within}
use Rattle.std.proofs.lemmas.Slice.Eq.{bytes_eq-Decides}
use Rattle.hierarchy.specs.declared.ancestry.Ancestry.{Ancestry}
use Rattle.hierarchy.specs.declared.final_methods.FinalNumbers.{FinalNumbers}
use Rattle.hierarchy.specs.declared.final_methods.Finals.{Finals}
use Rattle.hierarchy.specs.declared.summary.Kind.TheVariants.{Method}
use Rattle.hierarchy.specs.declared.summary.Summary.{Summary}
use Rattle.hierarchy.specs.declared.versions.Versions.{Versions}
use Rattle.hierarchy.specs.private.Above.{number_of}
use Rattle.hierarchy.specs.private.Ancestry.{HavePlace, IsAncestry, facts_at, place_among}
use Rattle.hierarchy.specs.private.FinalMethods.{HasFinal, HasFinals, IsFinalAbove, asked_as}
use Rattle.hierarchy.specs.private.MemberNumbers.{asked_number}
use Rattle.hierarchy.specs.private.Sketches.{has_sketch}
use Rattle.hierarchy.specs.private.Versions.{Tells, nested_at}
use Rattle.hierarchy.specs.Answer.{on_chain}
use Rattle.hierarchy.specs.Class.{MemberFact, ClassFact, class_of, world_of}
use Rattle.hierarchy.specs.Nearest.{MemberReference, is_kind, package_of}
use Rattle.hierarchy.specs.Overrides.{forbids, is_forbidden_from, may_override, overrides_final, overriding_method}
use Rattle.hierarchy.specs.Rules.{IsHierarchy}
use Rattle.hierarchy.specs.Summary.{fact_of}
use Rattle.hierarchy.proofs.Lookups.{tells_is}
use Rattle.hierarchy.proofs.Names.{found_some, none_some}
use Rattle.hierarchy.proofs.Overrides.{both, told}
use Rattle.hierarchy.proofs.Positions.{any_at, no_position}
use Rattle.hierarchy.proofs.Subclass.{alone, met_chain}
use Rattle.hierarchy.proofs.Upward.{named}

-- ---- one method

pub never : (P : Type 0) → (P → ⊥) → IsTrue false ↔ P
never P none = (λ t. absurd (false≢true t), λ x. absurd (none x))

some_none : {X : Type 0} (o : Option X) → o ≡ None → IsSome o → ⊥
some_none None e s = false≢true s
some_none (Some x) e s = none_some (sym e)

module _ (classes : List ClassFact) (numbers : FinalNumbers) (versions : Versions) (c : ClassFact) (f : Finals) (has : HasFinals classes numbers versions c f) (own : List ℕ) (m : MemberFact) where
  abbrev r : MemberReference
  r = asked_as m

  abbrev everywhere : Type 0
  everywhere = HasFinal classes c.name r None

  abbrev here : Type 0
  here = HasFinal classes c.name r (Some own)

  neither : (everywhere → ⊥) → (here → ⊥) → IsFinalAbove classes c.name own m → ⊥
  neither first second x = by x.1
    where
      by : everywhere ⊎ here → ⊥
      by (inl h) = first h
      by (inr h) = second h

  pub unsketched : has_sketch f.sketches m.name ≡ false → IsFinalAbove classes c.name own m → ⊥
  unsketched e = neither (λ h. false≢true (sym e ∙ has.sketched r None h)) (λ h. false≢true (sym e ∙ has.sketched r (Some own) h))

  pub unnumbered : asked_number numbers.members r ≡ None → IsFinalAbove classes c.name own m → ⊥
  unnumbered e = neither (λ h. some_none (asked_number numbers.members r) e (has.numbered r None h).0) (λ h. some_none (asked_number numbers.members r) e (has.numbered r (Some own) h).0)

  module _ (k : ℕ) (is_k : asked_number numbers.members r ≡ Some k) (all : ℕ) (is_all : all ≡ btree_map_len numbers.packages) where
    tells_all : Tells everywhere (nested_at versions f.scopes all k)
    tells_all = has.tells r k None all is_k (ap (λ n. Some n) (sym is_all))

    pub is_everywhere : may_override m.overriding ≡ true → (nested_at versions f.scopes all k ≡ 0 → ⊥) → IsFinalAbove classes c.name own m
    is_everywhere may some = (may, inl (by tells_all))
      where
        by : Tells everywhere (nested_at versions f.scopes all k) → everywhere
        by (inl (z, none)) = absurd (some z)
        by (inr (nz, is)) = is

    not_everywhere : nested_at versions f.scopes all k ≡ 0 → everywhere → ⊥
    not_everywhere z h = by tells_all
      where
        by : Tells everywhere (nested_at versions f.scopes all k) → ⊥
        by (inl (z, none)) = none h
        by (inr (nz, is)) = nz z

    pub no_package : nested_at versions f.scopes all k ≡ 0 → number_of numbers.packages own ≡ None → IsFinalAbove classes c.name own m → ⊥
    no_package z e = neither (not_everywhere z) (λ h. some_none (number_of numbers.packages own) e (has.numbered r (Some own) h).1)

    pub in_package : may_override m.overriding ≡ true → nested_at versions f.scopes all k ≡ 0 → (n v : ℕ) → number_of numbers.packages own ≡ Some n → v ≡ nested_at versions f.scopes n k
        → IsTrue (not (nat_eq v 0)) ↔ IsFinalAbove classes c.name own m
    in_package may z n v e is =
        let t = tells_is here (nested_at versions f.scopes n k) v is (has.tells r k (Some own) n is_k e) in
        (λ h. (may, inr (t.0 h)), λ x. t.1 (only x.1))
      where
        only : everywhere ⊎ here → here
        only (inl h) = absurd (not_everywhere z h)
        only (inr h) = h

-- ---- no method

pub none_among : {X : Type 0} (q p : X → Bool) (xs : List X) → ((i : ℕ) (x : X) → slice_get xs i ≡ Some x → p x ≡ false) → list_any p (filter q xs) ≡ false
none_among q p [] none = refl
none_among q p (x ∷ xs) none = by (q x) refl (none_among q p xs (λ i y e. none (suc i) y e))
  where
    by : (b : Bool) → q x ≡ b → list_any p (filter q xs) ≡ false → list_any p (filter q (x ∷ xs)) ≡ false
    by true e rest = rw e (rw (none zero x refl) rest)
    by false e rest = rw e rest

module _ (classes : List ClassFact) (c : ClassFact) where
  pub no_method : ((i : ℕ) (m : MemberFact) → slice_get c.members i ≡ Some m → overrides_final classes c m ≡ false) → overriding_method classes c ≡ None
  no_method none = no_position (overrides_final classes c) (filter (λ m. is_kind m.kind Method) c.members) (none_among (λ m. is_kind m.kind Method) (overrides_final classes c) c.members none)

  and_false : (b : Bool) → (b && false) ≡ false
  and_false true = refl
  and_false false = refl

  -- a class without a superclass overrides nothing
  pub no_super : c.superclass ≡ None → overriding_method classes c ≡ None
  no_super e = no_method (λ i m at. ap (λ o. may_override m.overriding && option_map_or (is_forbidden_from classes (package_of c.name) m) o false) e ∙ and_false (may_override m.overriding))

  -- nor does one whose members override nothing
  pub no_overriding : ((i : ℕ) (m : MemberFact) → slice_get c.members i ≡ Some m → may_override m.overriding ≡ false) → overriding_method classes c ≡ None
  no_overriding none = no_method (λ i m at. ap (λ b. b && option_map_or (is_forbidden_from classes (package_of c.name) m) c.superclass false) (none i m at))

  -- where the class above has no final method and inherits none
  pub nothing_final : IsHierarchy classes → (s : List ℕ) → c.superclass ≡ Some s → ((r : MemberReference) (scope : Option (List ℕ)) → HasFinal classes s r scope → ⊥) → overriding_method classes c ≡ None
  nothing_final h s super none = no_method (λ i m at. told classes c m s super h false (λ t. absurd (false≢true t), λ x. absurd (by m x.1)))
    where
      by : (m : MemberFact) → HasFinal classes s (asked_as m) None ⊎ HasFinal classes s (asked_as m) (Some (package_of c.name)) → ⊥
      by m (inl h) = none (asked_as m) None h
      by m (inr h) = none (asked_as m) (Some (package_of c.name)) h

-- ---- the class directly above

-- the class at the place of this name
pub placed_class : (classes : List ClassFact) (a : Ancestry) → IsAncestry classes a → (0 < length a.classes.items → IsHierarchy classes) → (name : List ℕ) (p : ℕ) → place_among classes a.places name ≡ Some p
    → (c : ClassFact) × (slice_get (facts_at a.classes.items) p ≡ Some c) × (c.name ≡ name) × IsHierarchy classes
placed_class classes a good formed name p e =
    let at = good.places.leads name p e in
    let lt = slice_get_within (facts_at a.classes.items) p at.0 at.1 in
    let long = length-map a.classes.items (λ (s : Bor Summary). fact_of s.now) in
    (at.0, at.1, at.2, formed (omega (arith, lt, long)))

-- no class has the name of the superclass, where it has no place
module _ (classes : List ClassFact) (a : Ancestry) (good : IsAncestry classes a) (c : ClassFact) (s : List ℕ) (super : c.superclass ≡ Some s) where
  absent : HavePlace classes a (s ∷ []) → place_among classes a.places s ≡ None → class_of classes s ≡ None
  absent have gone = by (class_of classes s) refl
    where
      by : (o : Option ClassFact) → class_of classes s ≡ o → class_of classes s ≡ None
      by None e = e
      by (Some x) e =
          let has = have zero s x refl e in
          absurd (none_some (sym gone ∙ ap (place_among classes a.places) (sym (named classes s x e)) ∙ good.places.exact has.0 x has.1))

  pub absent_super : HavePlace classes a (s ∷ []) → place_among classes a.places s ≡ None → overriding_method classes c ≡ None
  absent_super have gone = no_method classes c (λ i m at. ap (λ o. may_override m.overriding && option_map_or (is_forbidden_from classes (package_of c.name) m) o false) super
      ∙ ap (λ b. may_override m.overriding && b) (free m (is_forbidden_from classes (package_of c.name) m s) refl) ∙ and_false classes c (may_override m.overriding))
    where
      none : class_of classes s ≡ None
      none = absent have gone

      free : (m : MemberFact) (b : Bool) → is_forbidden_from classes (package_of c.name) m s ≡ b → is_forbidden_from classes (package_of c.name) m s ≡ false
      free m false e = e
      free m true e =
          let at = any_at (λ d. on_chain (world_of classes) (length classes) s d.name && forbids d (package_of c.name) m) classes e in
          let met = (both (on_chain (world_of classes) (length classes) s at.1.name) (forbids at.1 (package_of c.name) m) at.3).0 in
          let same = alone classes s at.1.name none (met_chain (world_of classes) (length classes) s at.1.name met) in
          absurd (found_some (λ (d : ClassFact). bytes_eq s d.name) classes at.0 at.1 at.2 ((bytes_eq-Decides s at.1.name).1 same) none)
