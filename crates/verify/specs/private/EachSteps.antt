-- Words of the code's own steps from files to the classes that stand: nothing that a reader must believe rests on them.
use Rattle.std.specs.Prelude.{◌≡◌, ◌≢◌, ℕ, List, length, slice_get, Option, Some}
use Rattle.std.specs.BTreeMap.{BTreeMap, get_by}
use Rattle.std.specs.Borrow.{Bor}
use Rattle.std.specs.Cmp.Lexicographic.{slice_cmp}
use Rattle.std.specs.Option.{option_and_then}
use Rattle.std.specs.Ordering.{nat_cmp}
use Rattle.hierarchy.specs.Ancestors.{place_after}
use Rattle.hierarchy.specs.Class.{ClassFact}
use Rattle.hierarchy.specs.Faults.{FaultOf}
use Rattle.hierarchy.specs.declared.fault.HierarchyFault.TheVariants as hierarchies
use Rattle.verify.specs.declared.judgements.EachFault.{EachFault}
use Rattle.verify.specs.declared.judgements.EachFault.TheVariants.{OutOfMemory, NoHierarchy}
use Rattle.verify.specs.Standing.{onward, ahead}

-- the place that is kept for a name
abbrev pub place_kept : BTreeMap (Bor (List ℕ)) ℕ → List ℕ → Option ℕ
place_kept places name = get_by (λ k. slice_cmp nat_cmp name k.now) places

-- the place of each class is kept for its name, and no other place
pub record ArePlaced (classes : List ClassFact) (places : BTreeMap (Bor (List ℕ)) ℕ) : Type 0 where
  pub leads : (name : List ℕ) (i : ℕ) → place_kept places name ≡ Some i → (c : ClassFact)
      × (slice_get classes i ≡ Some c) × (c.name ≡ name)
  pub each : (i : ℕ) (c : ClassFact) → slice_get classes i ≡ Some c → place_kept places c.name ≡ Some i

-- places can be kept: no two of the classes have one name
abbrev pub HavePlaces : List ClassFact → Type 0
HavePlaces classes = (places : BTreeMap (Bor (List ℕ)) ℕ) × ArePlaced classes places

-- the place with which a chain goes on
abbrev pub next_place : BTreeMap (Bor (List ℕ)) ℕ → ClassFact → Option ℕ
next_place places c = option_and_then (place_kept places) (onward c)

-- the class at a place
abbrev pub class_at : List ClassFact → Option ℕ → Option ClassFact
class_at classes place = option_and_then (slice_get classes) place

-- a table leads from the place of each class to that of the class so many steps on
pub record LeadsAhead (classes : List ClassFact) (steps : ℕ) (places : List (Option ℕ)) : Type 0 where
  pub each : length places ≡ length classes
  pub leads : (i : ℕ) (c : ClassFact) → slice_get classes i ≡ Some c
      → class_at classes (place_after places (Some i)) ≡ ahead classes steps c

-- why these classes are no hierarchy
abbrev pub IsNone : List ClassFact → EachFault → Type 0
IsNone classes OutOfMemory = Unit {0}
IsNone classes (NoHierarchy fault) = (fault ≢ hierarchies.OutOfMemory) × FaultOf classes fault
