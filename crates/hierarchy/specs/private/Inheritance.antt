-- The inheritance of classes, as it is kept: which classes stand above each, and which protected members each has, by
-- versions of arrays. Words of the code's own steps.
use Rattle.std.specs.Prelude.{◌≡◌, ℕ, ◌<◌, ◌%◌, suc, Bool, true, false, List, length, slice_get, get_or, Option, Some, None, find, if◌then◌else◌, MatchOption}
use Rattle.std.specs.BTreeMap.{BTreeMap}
use Rattle.std.specs.Borrow.{Bor}
use Rattle.std.specs.Option.{option_map_or}
use Rattle.hierarchy.specs.declared.inheritance.Inherited.{Inherited}
use Rattle.hierarchy.specs.declared.inheritance.Inheritance.{Inheritance}
use Rattle.hierarchy.specs.declared.member_numbers.MemberNumbers.{MemberNumbers}
use Rattle.hierarchy.specs.declared.versions.Versions.{Versions}
use Rattle.hierarchy.specs.private.Above.{number_of}
use Rattle.hierarchy.specs.private.Ancestry.{IsAncestry, facts_at, place_among}
use Rattle.hierarchy.specs.Class.{MemberFact, ClassFact, IsSubclass}
use Rattle.hierarchy.specs.private.Flags.{AreNumbers}
use Rattle.hierarchy.specs.private.FinalMethods.{AreFinalMethods}
use Rattle.hierarchy.specs.private.MemberNumbers.{AreMemberNumbers, asked_number}
use Rattle.hierarchy.specs.private.NumberedMembers.{NumberAll}
use Rattle.hierarchy.specs.private.Sketches.{has_sketch}
use Rattle.hierarchy.specs.declared.numbered_members.Numbered.TheVariants as numbered
use Rattle.hierarchy.specs.Nearest.{MemberReference, Declaration, IsNearest, is_guarded, is_named, package_of}
use Rattle.hierarchy.specs.Rules.{IsHierarchy}
use Rattle.hierarchy.specs.declared.versions.Put.{Put}
use Rattle.hierarchy.specs.private.Versions.{AreVersions, IsVersion, KeepVersions, Tells, put_in, value_at}

-- ---- versions

-- in place of a value stands the class's own where its member is protected, and 0 where it is not
abbrev pub declared_value : ℕ → Option MemberFact → ℕ → ℕ
declared_value own None v = v
declared_value own (Some m) v = if m.is_protected then own else 0

-- a version has 0 for each member whose name has none of these sketches
abbrev pub IsSketched : MemberNumbers → List Bool → Versions → ℕ → Type 0
IsSketched numbers sketches versions version = (r : MemberReference) (k : ℕ) → asked_number numbers r ≡ Some k
    → has_sketch sketches r.name ≡ false → value_at versions version k ≡ 0

-- these values, put one after the other, are those of these members, in place of values that are 0 where the name of a
-- member has none of these sketches
abbrev pub AreValues : MemberNumbers → List Bool → List MemberFact → ℕ → List Put → Type 0
AreValues numbers sketches ms own puts = (r : MemberReference) (k v : ℕ) → asked_number numbers r ≡ Some k
    → (has_sketch sketches r.name ≡ false → v ≡ 0)
    → put_in puts k v ≡ declared_value own (find (is_named r) ms) v

-- a version has the values of another, with those of these members in their place
pub record Declares (numbers : MemberNumbers) (old new : Versions) (ms : List MemberFact)
    (own above version : ℕ) : Type 0 where
  pub keeps : KeepVersions old new
  pub there : IsVersion new version
  pub values : (r : MemberReference) (k : ℕ) → asked_number numbers r ≡ Some k
      → value_at new version k ≡ declared_value own (find (is_named r) ms) (value_at old above k)

-- ---- values

-- the place of the class with the nearest declaration from a class upward, where that is protected
pub data IsProtectedAt (classes all : List ClassFact) (r : MemberReference) (name : List ℕ) : Option ℕ → Type 0 where
  free : ((d : Declaration) → IsNearest classes r name d → d.member.is_protected ≡ false)
      → IsProtectedAt classes all r name None
  kept : {p : ℕ} (d : Declaration) → slice_get all p ≡ Some d.class → IsNearest classes r name d
      → d.member.is_protected ≡ true → IsProtectedAt classes all r name (Some p)

-- the value of a member in a class: the place, from 1, of the class with the nearest declaration, where that is
-- protected, and otherwise 0
abbrev pub IsCoded : List ClassFact → List ClassFact → MemberReference → List ℕ → ℕ → Type 0
IsCoded classes all r name v = (o : Option ℕ) × (v ≡ option_map_or suc o 0) × IsProtectedAt classes all r name o

-- ---- lengths of names

-- the lengths have that of a name, modulo 64
abbrev pub has_length : List Bool → List ℕ → Bool
has_length lengths name = get_or lengths (length name % 64) false

-- ---- classes

module _ (classes all : List ClassFact) (numbers : MemberNumbers) (versions : Versions)
    (packages : BTreeMap (Bor (List ℕ)) ℕ) where
  -- a class has a version that tells of each class whether it is this one or stands above it, one with the values of
  -- the members, the number of its package, the lengths of its name and of the names of those above it, and sketches of
  -- the names of protected members
  pub record Inherits (c : ClassFact) (i : Inherited) : Type 0 where
    pub is_chain : IsVersion versions i.ancestors
    pub is_members : IsVersion versions i.members
    pub chain : (p : ℕ) (d : ClassFact) → slice_get all p ≡ Some d
        → Tells (IsSubclass classes c.name d.name) (value_at versions i.ancestors p)
    pub members : (r : MemberReference) (k : ℕ) → asked_number numbers r ≡ Some k
        → IsCoded classes all r c.name (value_at versions i.members k)
    pub in_package : number_of packages (package_of c.name) ≡ Some i.package_number
    pub lengths : (p : ℕ) (d : ClassFact) → slice_get all p ≡ Some d → IsSubclass classes c.name d.name
        → has_length i.lengths d.name ≡ true
    pub long : length i.lengths ≡ 64
    pub sketched : IsSketched numbers i.sketches versions i.members
    pub wide : length i.sketches ≡ 256

  -- where there is no class nothing is inherited
  abbrev pub InheritsAny : Option ClassFact → Inherited → Type 0
  InheritsAny o i = MatchOption o
      ((i.ancestors ≡ 0) × (i.members ≡ 0) × (length i.lengths ≡ 64) × (length i.sketches ≡ 256)) (λ c. Inherits c i)

  -- the first of these classes, as many as there are answers
  pub record InheritSoFar (of : List Inherited) : Type 0 where
    pub good : AreVersions versions
    pub zero_there : IsVersion versions 0
    pub zeros : (j : ℕ) → value_at versions 0 j ≡ 0
    pub named : AreNumbers packages
    pub each : (p : ℕ) (c : ClassFact) (i : Inherited) → slice_get all p ≡ Some c → slice_get of p ≡ Some i
        → Inherits c i

-- all classes of an ancestry have their entries
pub record IsInheritance (classes : List ClassFact) (h : Inheritance) : Type 0 where
  pub formed : 0 < length h.ancestry.classes.items → IsHierarchy classes
  pub ancestry : IsAncestry classes h.ancestry
  pub numbers : AreMemberNumbers h.numbers
  pub numbered : NumberAll numbered.Protected h.numbers (facts_at h.ancestry.classes.items)
  pub inherit : InheritSoFar classes
      (facts_at h.ancestry.classes.items) h.numbers h.table.versions h.table.packages h.table.of.items
  pub as_many : length h.table.of.items ≡ length h.ancestry.classes.items
  pub finals : AreFinalMethods classes (facts_at h.ancestry.classes.items) h.finals

-- where the class at a place looks for members of the class of this name: nowhere, if none of these is guarded, or at
-- the place of that class, which stands above it
pub data LooksAt (classes : List ClassFact) (h : Inheritance) (class : ℕ) (c : ClassFact) (name : List ℕ) : Option ℕ
    → Type 0 where
  nowhere : ((r : MemberReference) → r.class ≡ name → is_guarded classes c.name r ≡ false)
      → LooksAt classes h class c name None
  above : {place : ℕ} → place_among classes h.ancestry.places name ≡ Some place → (place ≡ class → ⊥)
      → ((d : ClassFact) → slice_get (facts_at h.ancestry.classes.items) place ≡ Some d
      → IsSubclass classes c.name d.name)
      → LooksAt classes h class c name (Some place)
