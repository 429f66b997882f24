-- The worlds in which a hierarchy may stand (JVMS 4.10.1.2): they have each of its classes as it has them, and may have
-- more.
use Rattle.std.specs.Prelude.{◌≡◌, ◌↔◌, ℕ, true, List, Some}
use Rattle.names.specs.StandardNames.{object_name, cloneable_name, serializable_name}
use Rattle.hierarchy.specs.World.{Entry, World, IsSubclassIn, climb}
use Rattle.hierarchy.specs.Class.{ClassFact, world_of, IsSubclass}
use Rattle.hierarchy.specs.Rules.{IsHierarchy}

-- the world has every class of the list; its interfaces have Object as their superclass, and Cloneable and Serializable
-- are interfaces where it has them
pub record Extends (world : World) (classes : List ClassFact) : Type 0 where
  pub keeps : (name : List ℕ) (e : Entry) → world_of classes name ≡ Some e → world name ≡ Some e
  pub interface_super : (name : List ℕ) (e : Entry) → world name ≡ Some e → e.interface ≡ true
      → e.superclass ≡ Some object_name
  pub cloneable : (e : Entry) → world cloneable_name ≡ Some e → e.interface ≡ true
  pub serializable : (e : Entry) → world serializable_name ≡ Some e → e.interface ≡ true

-- a subclass among the classes is one in each world that extends them
abbrev pub KeepsSubclasses : Type 0
KeepsSubclasses = (classes : List ClassFact) (world : World) (a b : List ℕ) → Extends world classes
    → IsSubclass classes a b → IsSubclassIn world a b

-- a hierarchy, as a world, extends itself
abbrev pub ExtendsItself : Type 0
ExtendsItself = (classes : List ClassFact) → IsHierarchy classes → Extends (world_of classes) classes

-- a chain of superclasses is a number of steps up
abbrev pub ChainsAreSteps : Type 0
ChainsAreSteps = (world : World) (a b : List ℕ) → IsSubclassIn world a b ↔ ((n : ℕ) × (climb world n a ≡ Some b))
