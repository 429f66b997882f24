-- Worlds of classes (JVMS 4.10.1.2): what each name stands for, and the chain of superclasses that leads up from a
-- class.
use Rattle.std.specs.Prelude.{◌≡◌, ℕ, zero, suc, Bool, List, Option, Some}
use Rattle.std.specs.Option.{option_and_then}

-- what a world says of a class: its superclass, if it has one, and whether it is an interface
pub record Entry : Type 0 where
  pub superclass : Option (List ℕ)
  pub interface : Bool

-- a world has at most one class of each name
abbrev pub World : Type 0
World = List ℕ → Option Entry

-- the superclass of the class of this name
abbrev pub superclass_in : World → List ℕ → Option (List ℕ)
superclass_in world name = option_and_then (λ e. e.superclass) (world name)

-- a finite chain of superclasses, possibly empty, leads from the first class to the second
pub data IsSubclassIn (world : World) : List ℕ → List ℕ → Type 0 where
  same : {a : List ℕ} → IsSubclassIn world a a
  above : {a s b : List ℕ} → superclass_in world a ≡ Some s → IsSubclassIn world s b → IsSubclassIn world a b

-- the class so many steps above a class
abbrev pub climb : World → ℕ → List ℕ → Option (List ℕ)
climb world zero a = Some a
climb world (suc n) a = option_and_then (climb world n) (superclass_in world a)
