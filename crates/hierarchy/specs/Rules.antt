-- The rules that make a list of classes a hierarchy (JVMS 4.1, 4.10.1.2): each as the fault that breaks it, of one
-- class or of the list as a whole.
use Rattle.std.specs.Prelude.{◌≡◌, ◌≢◌, ◌⊎◌, ℕ, ◌≤◌, ◌<◌, true, false, List, Some, None, MatchOption, length, slice_get}
use Rattle.names.specs.StandardNames.{object_name, cloneable_name, serializable_name}
use Rattle.hierarchy.specs.Class.{ClassFact, class_of, IsAbsent, IsSubclass}

-- the class at a place has this name
abbrev pub IsNamedAt : List ClassFact → ℕ → List ℕ → Type 0
IsNamedAt classes i name = (c : ClassFact) × (slice_get classes i ≡ Some c) × (c.name ≡ name)

-- the name stands more than once in the list
abbrev pub IsTwice : List ClassFact → ClassFact → Type 0
IsTwice classes c = (i : ℕ) × (j : ℕ) × (i < j) × IsNamedAt classes i c.name × IsNamedAt classes j c.name

-- the class stands on the chain of its own superclasses
abbrev pub IsOnCycle : List ClassFact → ClassFact → Type 0
IsOnCycle classes c = (s : List ℕ) × (c.superclass ≡ Some s) × IsSubclass classes s c.name

-- a class other than Object without a superclass, or whose superclass is not in the list
abbrev pub LacksSuper : List ClassFact → ClassFact → Type 0
LacksSuper classes c = (c.name ≢ object_name) × MatchOption c.superclass (Unit {0}) (λ s. IsAbsent classes s)

-- Object is there, is no interface and has no superclass
abbrev pub HasObject : List ClassFact → Type 0
HasObject classes = MatchOption (class_of classes object_name) ⊥ (λ c. (c.interface ≡ false) × (c.superclass ≡ None))

-- Cloneable or Serializable as a class
abbrev pub IsBadArrayInterface : ClassFact → Type 0
IsBadArrayInterface c = ((c.name ≡ cloneable_name) ⊎ (c.name ≡ serializable_name)) × (c.interface ≡ false)

-- an interface whose superclass is not Object
abbrev pub HasWrongSuper : ClassFact → Type 0
HasWrongSuper c = (c.interface ≡ true) × (c.superclass ≢ Some object_name)

module _ (P : ClassFact → Type 0) (classes : List ClassFact) where
  abbrev pub NoneBelow : ℕ → Type 0
  NoneBelow i = (j : ℕ) → j < i → (c : ClassFact) → slice_get classes j ≡ Some c → P c → ⊥

  -- it holds of no class of the list
  abbrev pub NoClass : Type 0
  NoClass = NoneBelow (length classes)

  -- the first class of the list of which it holds has this name
  abbrev pub IsFirst : List ℕ → Type 0
  IsFirst name = (i : ℕ) × (c : ClassFact) × (slice_get classes i ≡ Some c) × (c.name ≡ name) × P c × NoneBelow i

-- no rule is broken
pub record IsHierarchy (classes : List ClassFact) : Type 0 where
  pub one_each : NoClass (IsTwice classes) classes
  pub acyclic : NoClass (IsOnCycle classes) classes
  pub rooted : NoClass (LacksSuper classes) classes
  pub object : HasObject classes
  pub arrays : NoClass IsBadArrayInterface classes
  pub few : length classes ≤ 65535
  pub interfaces : NoClass HasWrongSuper classes
