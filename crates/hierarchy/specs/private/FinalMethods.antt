-- The final methods that classes have and inherit, as they are kept, by versions of arrays. Words of the code's own
-- steps.
use Rattle.std.specs.Prelude.{◌≡◌, ◌⊎◌, ℕ, true, false, Bool, List, [], ◌&&◌, length, slice_get, Option, Some, None, IsSome, MatchOption, if◌then◌else◌}
use Rattle.std.specs.BTreeMap.{BTreeMap, btree_map_len}
use Rattle.std.specs.Borrow.{Bor}
use Rattle.std.specs.List.{list_any}
use Rattle.hierarchy.specs.declared.final_methods.FinalMethods.{FinalMethods}
use Rattle.hierarchy.specs.declared.final_methods.FinalNumbers.{FinalNumbers}
use Rattle.hierarchy.specs.declared.final_methods.Finals.{Finals}
use Rattle.hierarchy.specs.declared.member_numbers.MemberNumbers.{MemberNumbers}
use Rattle.hierarchy.specs.declared.numbered_members.Numbered.TheVariants as numbered
use Rattle.hierarchy.specs.declared.summary.Overriding.{Overriding}
use Rattle.hierarchy.specs.declared.summary.Overriding.TheVariants.{Final, FinalInPackage}
use Rattle.hierarchy.specs.declared.versions.Put.{Put}
use Rattle.hierarchy.specs.declared.versions.Versions.{Versions}
use Rattle.hierarchy.specs.private.Above.{number_of}
use Rattle.hierarchy.specs.private.Ancestry.{IsOwn}
use Rattle.hierarchy.specs.private.Flags.{AreNumbers}
use Rattle.hierarchy.specs.private.MemberNumbers.{AreMemberNumbers, asked_number}
use Rattle.hierarchy.specs.private.NumberedMembers.{NumberAll, is_final}
use Rattle.hierarchy.specs.private.SameSummaries.{same_overriding}
use Rattle.hierarchy.specs.private.Sketches.{HaveSketches, has_sketch}
use Rattle.hierarchy.specs.private.Versions.{AreNamed, AreVersions, IsVersion, KeepVersions, Tells, nested_at, put_in, value_at}
use Rattle.hierarchy.specs.Class.{MemberFact, ClassFact, IsSubclass}
use Rattle.hierarchy.specs.Nearest.{MemberReference, is_named, package_of}
use Rattle.hierarchy.specs.Overrides.{may_override}

-- ---- declarations

-- no class may override the method, or no class of a package
abbrev pub IsFinalFor : Overriding → List ℕ → Option (List ℕ) → Type 0
IsFinalFor part own scope = ((part ≡ Final) × (scope ≡ None)) ⊎ ((part ≡ FinalInPackage) × (scope ≡ Some own))

-- a class declares the method, so that no class of a scope may override it: of a package, or none at all
abbrev pub DeclaresFinal : ClassFact → MemberReference → Option (List ℕ) → Type 0
DeclaresFinal d r scope = (i : ℕ) × (f : MemberFact) × (slice_get d.members i ≡ Some f) × (is_named r f ≡ true)
    × IsFinalFor f.overriding (package_of d.name) scope

-- the class of this name, or one above it, does
abbrev pub HasFinal : List ClassFact → List ℕ → MemberReference → Option (List ℕ) → Type 0
HasFinal classes name r scope = (d : ClassFact) × IsOwn classes d × IsSubclass classes name d.name
    × DeclaresFinal d r scope

abbrev pub HasNoFinal : ClassFact → Type 0
HasNoFinal c = (i : ℕ) (m : MemberFact) → slice_get c.members i ≡ Some m → is_final m.overriding ≡ false

-- a class has no final method, or its package has a number
abbrev pub HasPackage : BTreeMap (Bor (List ℕ)) ℕ → ClassFact → Type 0
HasPackage packages c = HasNoFinal c ⊎ IsSome (number_of packages (package_of c.name))

abbrev pub HavePackages : BTreeMap (Bor (List ℕ)) ℕ → List ClassFact → Type 0
HavePackages packages all = (p : ℕ) (c : ClassFact) → slice_get all p ≡ Some c → HasPackage packages c

-- final methods of these classes have numbers, and so have the packages of the classes that have them
pub record AreFinalNumbers (all : List ClassFact) (n : FinalNumbers) : Type 0 where
  pub members : AreMemberNumbers n.members
  pub packages : AreNumbers n.packages
  pub numbered : NumberAll numbered.Final n.members all
  pub packaged : HavePackages n.packages all

-- for the classes of a package its number, and for all classes how many packages have one
abbrev pub scope_number : BTreeMap (Bor (List ℕ)) ℕ → Option (List ℕ) → Option ℕ
scope_number packages None = Some (btree_map_len packages)
scope_number packages (Some own) = number_of packages own

-- ---- the methods of one class

-- a member is the one that is asked for, and takes this part
abbrev pub takes_part : Overriding → MemberReference → MemberFact → Bool
takes_part part r m = same_overriding m.overriding part && is_named r m

-- these values, put one after the other, are 1 for the members that take this part
abbrev pub AreOnes : MemberNumbers → List MemberFact → Overriding → List Put → Type 0
AreOnes numbers ms part puts = (r : MemberReference) (k v : ℕ) → asked_number numbers r ≡ Some k
    → put_in puts k v ≡ (if list_any (takes_part part r) ms then 1 else v)

-- where it holds the value is 1, and where it does not another
abbrev pub Overlays : Type 0 → ℕ → ℕ → Type 0
Overlays P old new = (P × (new ≡ 1)) ⊎ ((P → ⊥) × (new ≡ old))

-- an entry has the final methods of a class too
pub record AddsFinals (numbers : FinalNumbers) (old new : Versions) (above : Finals) (c : ClassFact) (made : Finals)
    : Type 0 where
  pub keeps : KeepVersions old new
  pub version : IsVersion new made.scopes
  pub named : AreNamed new made.scopes
  pub values : (r : MemberReference) (k : ℕ) (scope : Option (List ℕ)) (q : ℕ) → asked_number numbers.members r ≡ Some k
      → scope_number numbers.packages scope ≡ Some q
      → Overlays (DeclaresFinal c r scope) (nested_at old above.scopes q k) (nested_at new made.scopes q k)
  pub kept : (name : List ℕ) → has_sketch above.sketches name ≡ true → has_sketch made.sketches name ≡ true
  pub noted : HaveSketches numbered.Final made.sketches c.members
  pub long : length made.sketches ≡ 256

-- ---- classes

module _ (classes : List ClassFact) (numbers : FinalNumbers) (versions : Versions) where
  -- the version of a class names for each scope the version that has 1 at the number of each method that is final there
  pub record HasFinals (c : ClassFact) (f : Finals) : Type 0 where
    pub version : IsVersion versions f.scopes
    pub named : AreNamed versions f.scopes
    pub tells : (r : MemberReference) (k : ℕ) (scope : Option (List ℕ)) (q : ℕ) → asked_number numbers.members r ≡ Some k
        → scope_number numbers.packages scope ≡ Some q
        → Tells (HasFinal classes c.name r scope) (nested_at versions f.scopes q k)
    pub numbered : (r : MemberReference) (scope : Option (List ℕ)) → HasFinal classes c.name r scope
        → IsSome (asked_number numbers.members r) × IsSome (scope_number numbers.packages scope)
    pub sketched : (r : MemberReference) (scope : Option (List ℕ)) → HasFinal classes c.name r scope
        → has_sketch f.sketches r.name ≡ true
    pub long : length f.sketches ≡ 256

  -- where there is no class nothing is inherited
  abbrev pub HasAnyFinals : Option ClassFact → Finals → Type 0
  HasAnyFinals o f = MatchOption o ((f.scopes ≡ 0) × (length f.sketches ≡ 256)) (λ c. HasFinals c f)

  -- the first of these classes, as many as there are entries
  pub record FinalSoFar (all : List ClassFact) (of : List Finals) : Type 0 where
    pub good : AreVersions versions
    pub zero_there : IsVersion versions 0
    pub zeros : (j : ℕ) → value_at versions 0 j ≡ 0
    pub each : (p : ℕ) (c : ClassFact) (f : Finals) → slice_get all p ≡ Some c → slice_get of p ≡ Some f → HasFinals c f

-- each class has its entry, or nothing that is final
pub record AreFinalMethods (classes all : List ClassFact) (f : FinalMethods) : Type 0 where
  pub good : AreVersions f.table.versions
  pub some : (p : ℕ) (c : ClassFact) (x : Finals) → slice_get all p ≡ Some c → slice_get f.table.of.items p ≡ Some x
      → HasFinals classes f.numbers f.table.versions c x
  pub none : (p : ℕ) (c : ClassFact) → slice_get all p ≡ Some c → slice_get f.table.of.items p ≡ None
      → (r : MemberReference) (scope : Option (List ℕ)) → HasFinal classes c.name r scope → ⊥

-- ---- a method of a class that is no part of these

abbrev pub asked_as : MemberFact → MemberReference
asked_as m = record { class = []; kind = m.kind; name = m.name; descriptor = m.descriptor }

-- a class of a package may not override the method, since the class of this name has it or inherits it
abbrev pub IsFinalAbove : List ClassFact → List ℕ → List ℕ → MemberFact → Type 0
IsFinalAbove classes name own m = (may_override m.overriding ≡ true)
    × (HasFinal classes name (asked_as m) None ⊎ HasFinal classes name (asked_as m) (Some own))
