-- The classes of a list that stand: from each a chain of superclasses leads to Object, on which no class breaks a rule
-- of hierarchies (JVMS 4.1, 5.3.5).
use Rattle.std.specs.Prelude.{ℕ, zero, suc, ◌^◌, Bool, false, ◌&&◌, ◌||◌, not, List, filter, Option, Some, None, is_some, bytes_eq, if◌then◌else◌}
use Rattle.std.specs.Option.{option_and_then, option_map_or}
use Rattle.names.specs.StandardNames.{object_name, cloneable_name, serializable_name}
use Rattle.hierarchy.specs.Class.{ClassFact, class_of}

-- Object as the root of all classes: no interface, and without a superclass
abbrev pub is_root : ClassFact → Bool
is_root c = bytes_eq c.name object_name && (not c.interface && not (is_some c.superclass))

-- Cloneable or Serializable, and no interface
abbrev pub is_array_class : ClassFact → Bool
is_array_class c = (bytes_eq c.name cloneable_name || bytes_eq c.name serializable_name) && not c.interface

-- an interface whose superclass, of this name, is not Object
abbrev pub has_other_super : ClassFact → List ℕ → Bool
has_other_super c superclass = c.interface && not (bytes_eq superclass object_name)

-- the superclass of this name, of a class that breaks neither rule
abbrev pub super_of : ClassFact → List ℕ → Option (List ℕ)
super_of c superclass = if is_array_class c || has_other_super c superclass then None else Some superclass

-- The name of the class with which the chain goes on from a class: from the root its own, so that a chain which has
-- come there stays.
abbrev pub onward : ClassFact → Option (List ℕ)
onward c = if is_root c then Some c.name else option_and_then (super_of c) c.superclass

module _ (classes : List ClassFact) where
  -- the class with which the chain goes on
  abbrev pub next : ClassFact → Option ClassFact
  next c = option_and_then (class_of classes) (onward c)

  -- the class so many steps on
  abbrev pub ahead : ℕ → ClassFact → Option ClassFact
  ahead zero c = Some c
  ahead (suc n) c = option_and_then (ahead n) (next c)

  -- Its chain leads to the root. It has not as many steps as 65,536, since a hierarchy has not as many classes (45).
  abbrev pub stands : ClassFact → Bool
  stands c = option_map_or is_root (ahead (2 ^ 16) c) false

  -- the classes that stand
  abbrev pub standing : List ClassFact
  standing = filter stands classes
