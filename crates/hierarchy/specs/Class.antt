-- Classes by their summaries (JVMS 4.1, 4.5, 4.6), names being lists of bytes, and the world that a list of classes is
-- (JVMS 4.10.1.2).
use Rattle.std.specs.Prelude.{◌≡◌, ℕ, Bool, List, Option, None, IsSome, find, option_map}
use Rattle.std.specs.Str.{bytes_eq}
use Rattle.hierarchy.specs.declared.summary.Kind.{Kind}
use Rattle.hierarchy.specs.declared.summary.Overriding.{Overriding}
use Rattle.hierarchy.specs.World.{Entry, World, superclass_in, IsSubclassIn}

-- a field or method of a class
pub record MemberFact : Type 0 where
  pub name : List ℕ
  pub descriptor : List ℕ
  pub kind : Kind
  pub is_static : Bool
  pub is_protected : Bool
  pub overriding : Overriding

-- the summary of a class
pub record ClassFact : Type 0 where
  pub name : List ℕ
  pub superclass : Option (List ℕ)
  pub interface : Bool
  pub is_final : Bool
  pub members : List MemberFact

-- the class of this name
abbrev pub class_of : List ClassFact → List ℕ → Option ClassFact
class_of classes name = find (λ c. bytes_eq name c.name) classes

abbrev pub IsPresent : List ClassFact → List ℕ → Type 0
IsPresent classes name = IsSome (class_of classes name)

abbrev pub IsAbsent : List ClassFact → List ℕ → Type 0
IsAbsent classes name = class_of classes name ≡ None

abbrev pub entry_of : ClassFact → Entry
entry_of c = record { superclass = c.superclass; interface = c.interface }

-- the world that has these classes and no other
abbrev pub world_of : List ClassFact → World
world_of classes name = option_map entry_of (class_of classes name)

-- whether the class of this name is an interface
abbrev pub interface_of : List ClassFact → List ℕ → Option Bool
interface_of classes name = option_map (λ c. c.interface) (class_of classes name)

-- the superclass of the class of this name
abbrev pub superclass_of : List ClassFact → List ℕ → Option (List ℕ)
superclass_of classes name = superclass_in (world_of classes) name

-- a finite chain of superclasses, possibly empty, leads from the first class to the second
abbrev pub IsSubclass : List ClassFact → List ℕ → List ℕ → Type 0
IsSubclass classes a b = IsSubclassIn (world_of classes) a b
