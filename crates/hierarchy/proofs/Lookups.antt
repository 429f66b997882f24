-- Answers from what classes inherit.
use Rattle.std.proofs.Common.{◌≡◌, ◌↔◌, inl, inr, ℕ, suc, ◌-◌, ◌<◌, Bool, true, false, not, IsTrue, List, [], get_or, length, nat_eq, slice_get, Option, Some, None, IfSome, refl, ap, sym, ◌∙◌, subst, arith}
use Rattle.std.specs.Borrow.{Bor}
use Rattle.std.specs.Option.{option_map_or}
use Rattle.std.proofs.lemmas.Bool.{false≢true, eqb-true, eqb-false}
use Rattle.std.proofs.lemmas.List.{length-map}
use Rattle.std.proofs.lemmas.Option.{slice_get_within, slice_get-get_or}
use Rattle.hierarchy.specs.declared.inheritance.Inherited.{Inherited}
use Rattle.hierarchy.specs.declared.inheritance.Inheritance.{Inheritance}
use Rattle.hierarchy.specs.declared.summary.Summary.{Summary}
use Rattle.hierarchy.specs.private.Ancestry.{facts_at, place_among}
use Rattle.hierarchy.specs.Class.{ClassFact, IsSubclass}
use Rattle.hierarchy.specs.private.MemberNumbers.{asked_number}
use Rattle.hierarchy.specs.private.Sketches.{has_sketch}
use Rattle.hierarchy.specs.private.Versions.{Tells, value_at}
use Rattle.hierarchy.specs.private.Inheritance.{Inherits, has_length, IsCoded, IsInheritance, IsProtectedAt, LooksAt, above, free, kept, nowhere}
use Rattle.hierarchy.specs.Nearest.{MemberReference, Declaration, IsNearest, is_guarded}
use Rattle.hierarchy.specs.Rules.{IsHierarchy}
use Rattle.hierarchy.specs.Summary.{fact_of}
use Rattle.hierarchy.proofs.Descent.{apart_free, elsewhere_by, no_number, own_free, protected_guards, reach_placed, unprotected_free}
use Rattle.hierarchy.proofs.InOrder.{read_at}
use Rattle.hierarchy.proofs.Names.{none_some, some_same}

-- ---- values

pub tells_is : (P : Type 0) (v n : ℕ) → n ≡ v → Tells P v → IsTrue (not (nat_eq n 0)) ↔ P
tells_is P v n e t = by (nat_eq n 0) refl t
  where
    by : (b : Bool) → nat_eq n 0 ≡ b → Tells P v → IsTrue (not b) ↔ P
    by true f (inl (z, no_p)) = (λ x. absurd (false≢true x), λ p. absurd (no_p p))
    by true f (inr (nz, p)) = absurd (nz (sym e ∙ eqb-true n 0 f))
    by false f (inl (z, no_p)) = absurd (eqb-false n 0 f (e ∙ z))
    by false f (inr (nz, p)) = (λ x. p, λ x. refl)

module _ (classes all : List ClassFact) (r : MemberReference) (name : List ℕ) (v : ℕ) (is : IsCoded classes all r name v) where
  pub coded_none : v ≡ 0 → IsProtectedAt classes all r name None
  coded_none z = by is.0 is.1 is.2
    where
      by : (o : Option ℕ) → v ≡ option_map_or suc o 0 → IsProtectedAt classes all r name o → IsProtectedAt classes all r name None
      by None e x = x
      by (Some q) e x = absurd (omega (arith, e, z))

  pub coded_some : (v ≡ 0 → ⊥) → IsProtectedAt classes all r name (Some (v - 1))
  coded_some nz = by is.0 is.1 is.2
    where
      by : (o : Option ℕ) → v ≡ option_map_or suc o 0 → IsProtectedAt classes all r name o → IsProtectedAt classes all r name (Some (v - 1))
      by None e x = absurd (nz e)
      by (Some q) e x = let same : q ≡ v - 1 = omega (arith, e) in subst (λ n. IsProtectedAt classes all r name (Some n)) same x

pub protected_none : (classes all : List ClassFact) (r : MemberReference) (name : List ℕ) → IsProtectedAt classes all r name None → (d : Declaration) → IsNearest classes r name d → d.member.is_protected ≡ false
protected_none classes all r name (free f) = f

pub protected_some : (classes all : List ClassFact) (r : MemberReference) (name : List ℕ) (p : ℕ) → IsProtectedAt classes all r name (Some p)
    → (d : Declaration) × (slice_get all p ≡ Some d.class) × IsNearest classes r name d × (d.member.is_protected ≡ true)
protected_some classes all r name p (kept d e n t) = (d, e, n, t)

-- ---- places

pub entry_at : (entries : List Inherited) (p : ℕ) → p < length entries → (i : Inherited) × (slice_get entries p ≡ Some i)
entry_at entries p lt = by (slice_get entries p) refl
  where
    missing : Inherited
    missing = record { ancestors = 0; members = 0; package_number = 0; lengths = []; sketches = [] }

    by : (o : Option Inherited) → slice_get entries p ≡ o → (i : Inherited) × (slice_get entries p ≡ Some i)
    by None e = absurd (none_some (sym e ∙ slice_get-get_or entries p missing lt))
    by (Some i) e = (i, e)

module _ (classes : List ClassFact) (h : Inheritance) (is : IsInheritance classes h) where
  abbrev all : List ClassFact
  all = facts_at h.ancestry.classes.items

  long : length all ≡ length h.table.of.items
  long = length-map h.ancestry.classes.items (λ (s : Bor Summary). fact_of s.now) ∙ sym is.as_many

  pub within : (p : ℕ) (c : ClassFact) → slice_get all p ≡ Some c → p < length h.table.of.items
  within p c e = let lt = slice_get_within all p c e in omega (arith, lt, long)

  pub formed_at : (p : ℕ) (c : ClassFact) → slice_get all p ≡ Some c → IsHierarchy classes
  formed_at p c e =
      let lt = within p c e in
      is.formed (omega (arith, lt, is.as_many))

  pub inherits_at : (p : ℕ) (i : Inherited) → p < length h.table.of.items → i ≡ get_or h.table.of.items p i
      → (c : ClassFact) × (slice_get all p ≡ Some c) × Inherits classes all h.numbers h.table.versions h.table.packages c i
  inherits_at p i lt read = by (slice_get all p) refl
    where
      inside : p < length all
      inside = omega (arith, lt, long)

      by : (o : Option ClassFact) → slice_get all p ≡ o → (c : ClassFact) × (slice_get all p ≡ Some c) × Inherits classes all h.numbers h.table.versions h.table.packages c i
      by None e = absurd (none_some (sym e ∙ slice_get-get_or all p missing inside))
        where
          missing : ClassFact
          missing = record { name = []; superclass = None; interface = false; is_final = false; members = [] }
      by (Some c) e = (c, e, is.inherit.each p c i e (read_at h.table.of.items p i lt read))

  pub class_at : (p : ℕ) → p < length h.table.of.items → (c : ClassFact) × (slice_get all p ≡ Some c)
  class_at p lt = by (slice_get all p) refl
    where
      inside : p < length all
      inside = omega (arith, lt, long)

      by : (o : Option ClassFact) → slice_get all p ≡ o → (c : ClassFact) × (slice_get all p ≡ Some c)
      by None e = absurd (none_some (sym e ∙ slice_get-get_or all p missing inside))
        where
          missing : ClassFact
          missing = record { name = []; superclass = None; interface = false; is_final = false; members = [] }
      by (Some c) e = (c, e)

  pub inherits_of : (p : ℕ) (i : Inherited) (c : ClassFact) → p < length h.table.of.items → i ≡ get_or h.table.of.items p i → slice_get all p ≡ Some c
      → Inherits classes all h.numbers h.table.versions h.table.packages c i
  inherits_of p i c lt read at = is.inherit.each p c i at (read_at h.table.of.items p i lt read)

  -- a member whose name has none of the sketches of a class is not protected there
  pub unsketched : (p : ℕ) (i : Inherited) (c : ClassFact) → p < length h.table.of.items → i ≡ get_or h.table.of.items p i → slice_get all p ≡ Some c → (r : MemberReference) → has_sketch i.sketches r.name ≡ false
      → IsProtectedAt classes all r c.name None
  unsketched p i c lt read at r none = by (asked_number h.numbers r) refl
    where
      by : (o : Option ℕ) → asked_number h.numbers r ≡ o → IsProtectedAt classes all r c.name None
      by None e = no_number classes all h.ancestry refl is.ancestry h.numbers is.numbered r e p c at
      by (Some k) e = let x = inherits_of p i c lt read at in coded_none classes all r c.name (value_at h.table.versions i.members k) (x.members r k e) (x.sketched r k e none)

  -- ---- what is guarded

  module _ (class : ℕ) (c : ClassFact) (at : slice_get all class ≡ Some c) (r : MemberReference) where
    pub no_place : place_among classes h.ancestry.places r.class ≡ None → false ≡ is_guarded classes c.name r
    no_place none = apart_free classes (formed_at class c at) c r (λ sub.
        let x = reach_placed classes all h.ancestry refl is.ancestry h.numbers (formed_at class c at) class c r.class at sub in
        none_some (sym none ∙ ap (place_among classes h.ancestry.places) (sym x.3) ∙ is.ancestry.places.exact x.0 x.1 x.2))

    pub no_length : (i : Inherited) → slice_get h.table.of.items class ≡ Some i → has_length i.lengths r.class ≡ false → false ≡ is_guarded classes c.name r
    no_length i e none = apart_free classes (formed_at class c at) c r (λ sub.
        let x = reach_placed classes all h.ancestry refl is.ancestry h.numbers (formed_at class c at) class c r.class at sub in
        let told = (is.inherit.each class c i at e).lengths x.0 x.1 x.2 (subst (IsSubclass classes c.name) (sym x.3) sub) in
        false≢true (sym none ∙ ap (has_length i.lengths) (sym x.3) ∙ told))

    module _ (start : ℕ) (found : place_among classes h.ancestry.places r.class ≡ Some start) where
      pub start_at : (d : ClassFact) × (slice_get all start ≡ Some d) × (d.name ≡ r.class)
      start_at = is.ancestry.places.leads r.class start found

      pub start_itself : start ≡ class → false ≡ is_guarded classes c.name r
      start_itself same =
          own_free classes (formed_at class c at) c r (ap (λ (x : ClassFact). x.name) (some_same (sym at ∙ ap (slice_get all) (sym same) ∙ start_at.1)) ∙ start_at.2)

      pub start_apart : (IsSubclass classes c.name start_at.0.name → ⊥) → false ≡ is_guarded classes c.name r
      start_apart n = apart_free classes (formed_at class c at) c r (λ sub. n (subst (IsSubclass classes c.name) (sym start_at.2) sub))

      pub start_free : IsProtectedAt classes all r start_at.0.name None → false ≡ is_guarded classes c.name r
      start_free x =
          unprotected_free classes (formed_at class c at) c r (λ d n. protected_none classes all r start_at.0.name x d (subst (λ m. IsNearest classes r m d) (sym start_at.2) n))

      pub start_guarded : (start ≡ class → ⊥) → IsSubclass classes c.name start_at.0.name → (p : ℕ) → IsProtectedAt classes all r start_at.0.name (Some p)
          → (i j : Inherited) → class < length h.table.of.items → i ≡ get_or h.table.of.items class i → j ≡ get_or h.table.of.items p j
          → not (nat_eq j.package_number i.package_number) ≡ is_guarded classes c.name r
      start_guarded apart sub p x i j lt read_i read_j =
          protected_guards classes (formed_at class c at) c r (not (nat_eq j.package_number i.package_number)) y.0
          (λ same. apart (some_same (sym found ∙ ap (place_among classes h.ancestry.places) (sym same) ∙ is.ancestry.places.exact class c at)))
          (subst (IsSubclass classes c.name) start_at.2 sub) (subst (λ m. IsNearest classes r m y.0) start_at.2 y.2) y.3
          (elsewhere_by h.table.packages is.inherit.named c y.0.class i.package_number j.package_number
          (inherits_of class i c lt read_i at).in_package (inherits_of p j y.0.class (within p y.0.class y.1) read_j y.1).in_package)
        where
          y : (d : Declaration) × (slice_get all p ≡ Some d.class) × IsNearest classes r start_at.0.name d × (d.member.is_protected ≡ true)
          y = protected_some classes all r start_at.0.name p x

-- ---- where a class looks

pub looks_nowhere : (classes : List ClassFact) (h : Inheritance) (class : ℕ) (c : ClassFact) (name : List ℕ) → LooksAt classes h class c name None → (r : MemberReference) → r.class ≡ name
    → false ≡ is_guarded classes c.name r
looks_nowhere classes h class c name (nowhere f) r same = sym (f r same)

pub looks_above : (classes : List ClassFact) (h : Inheritance) (class : ℕ) (c : ClassFact) (name : List ℕ) (p : ℕ) → LooksAt classes h class c name (Some p)
    → (place_among classes h.ancestry.places name ≡ Some p) × (p ≡ class → ⊥) × ((d : ClassFact) → slice_get (facts_at h.ancestry.classes.items) p ≡ Some d → IsSubclass classes c.name d.name)
looks_above classes h class c name p (above found apart sub) = (found, apart, sub)

-- the place is one of the table
pub looks_within : (classes : List ClassFact) (h : Inheritance) → IsInheritance classes h → (class : ℕ) (c : ClassFact) (name : List ℕ) (o : Option ℕ) → LooksAt classes h class c name o
    → IfSome o (λ p. p < length h.table.of.items)
looks_within classes h is class c name None looks = tt
looks_within classes h is class c name (Some p) looks =
    let d = is.ancestry.places.leads name p (looks_above classes h class c name p looks).0 in
    within classes h is p d.0 d.1
