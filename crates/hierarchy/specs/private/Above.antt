-- The classes above a class, and where the name of each stands among theirs. Words of the code's own steps.
use Rattle.std.specs.Prelude.{◌≡◌, ℕ, zero, suc, List, [], ◌∷◌, length, map, slice_get, Option, Some, None, IsSome}
use Rattle.std.specs.BTreeMap.{BTreeMap, get_by}
use Rattle.std.specs.Borrow.{Bor}
use Rattle.std.specs.Cmp.Lexicographic.{slice_cmp}
use Rattle.std.specs.Option.{option_and_then}
use Rattle.std.specs.Ordering.{nat_cmp}
use Rattle.hierarchy.specs.Class.{ClassFact, class_of}
use Rattle.hierarchy.specs.Nearest.{MemberReference, Declaration, declared_by, or_above}

module _ (classes : List ClassFact) where
  -- the class directly above a class
  abbrev pub class_above : ClassFact → Option ClassFact
  class_above c = option_and_then (class_of classes) c.superclass

  -- a class and those above it, so many at most
  abbrev pub upward : ℕ → Option ClassFact → List ClassFact
  upward zero o = []
  upward (suc n) None = []
  upward (suc n) (Some c) = c ∷ upward n (class_above c)

  -- the class directly above the class of this name
  abbrev pub first_above : List ℕ → Option ClassFact
  first_above name = option_and_then class_above (class_of classes name)

  -- all classes above the class of this name, in a hierarchy: there they are fewer than all
  abbrev pub classes_above : List ℕ → List ClassFact
  classes_above name = upward (suc (length classes)) (first_above name)

  -- their names
  abbrev pub names_above : List ℕ → List (List ℕ)
  names_above name = map (λ (c : ClassFact). c.name) (classes_above name)

-- names as they are kept
abbrev pub names_of : List (Bor (List ℕ)) → List (List ℕ)
names_of kept = map (λ (n : Bor (List ℕ)). n.now) kept

-- the first of these classes that declares the member, with its declaration
abbrev pub first_declared : List ClassFact → MemberReference → Option Declaration
first_declared [] r = None
first_declared (c ∷ cs) r = or_above c (declared_by c r) (first_declared cs r)

-- numbers of texts
abbrev pub Numbers : Type 0
Numbers = BTreeMap (Bor (List ℕ)) ℕ

-- the number that a map has for a text
abbrev pub number_of : BTreeMap (Bor (List ℕ)) ℕ → List ℕ → Option ℕ
number_of numbers text = get_by (λ k. slice_cmp nat_cmp text k.now) numbers

-- these names, and no others, have a place, at which they stand
pub record ArePlaces (names : List (List ℕ)) (places : BTreeMap (Bor (List ℕ)) ℕ) : Type 0 where
  pub leads : (name : List ℕ) (p : ℕ) → number_of places name ≡ Some p → slice_get names p ≡ Some name
  pub each : (p : ℕ) (name : List ℕ) → slice_get names p ≡ Some name → IsSome (number_of places name)
