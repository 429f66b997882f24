-- Classes with all that stand above them, each after its superclass. Words of the code's own steps.
use Rattle.std.specs.Prelude.{◌≡◌, ℕ, ◌<◌, List, [], ◌∷◌, map, slice_get, Option, Some, None, MatchOption}
use Rattle.std.specs.BTreeMap.{BTreeMap, get}
use Rattle.std.specs.Borrow.{Bor}
use Rattle.std.specs.Option.{option_and_then}
use Rattle.std.specs.Ordering.{nat_cmp}
use Rattle.hierarchy.specs.declared.ancestry.Ancestry.{Ancestry}
use Rattle.hierarchy.specs.declared.summary.Summary.{Summary}
use Rattle.hierarchy.specs.private.Above.{class_above}
use Rattle.hierarchy.specs.Class.{ClassFact, class_of}
use Rattle.hierarchy.specs.Places.{place_in}
use Rattle.hierarchy.specs.Summary.{fact_of}

-- classes as they are kept
abbrev pub facts_at : List (Bor Summary) → List ClassFact
facts_at kept = map (λ (s : Bor Summary). fact_of s.now) kept

-- the class is the one of the list that has its name
abbrev pub IsOwn : List ClassFact → ClassFact → Type 0
IsOwn classes c = class_of classes c.name ≡ Some c

-- the first of some classes, or else another
abbrev pub first_or : Option ClassFact → List ClassFact → Option ClassFact
first_or o [] = o
first_or o (c ∷ cs) = Some c

-- each class stands directly below the next one, and the last one below another, if there is one
abbrev pub AreInTurn : List ClassFact → List ClassFact → Option ClassFact → Type 0
AreInTurn classes [] o = Unit {0}
AreInTurn classes (c ∷ cs) o = IsOwn classes c × (class_above classes c ≡ first_or o cs) × AreInTurn classes cs o

-- the place of the class of this name among some, from the places of these by their places in the list of all
abbrev pub place_among : List ClassFact → BTreeMap ℕ ℕ → List ℕ → Option ℕ
place_among classes places name = option_and_then (get nat_cmp places) (place_in classes name)

-- each class, and no other, has a place, at which it stands
pub record HavePlaces (classes all : List ClassFact) (places : BTreeMap ℕ ℕ) : Type 0 where
  pub leads : (name : List ℕ) (p : ℕ) → place_among classes places name ≡ Some p
      → (c : ClassFact) × (slice_get all p ≡ Some c) × (c.name ≡ name)
  pub exact : (p : ℕ) (c : ClassFact) → slice_get all p ≡ Some c → place_among classes places c.name ≡ Some p

-- classes of a list, each after the one that stands directly above it
pub record IsAncestry (classes : List ClassFact) (a : Ancestry) : Type 0 where
  pub places : HavePlaces classes (facts_at a.classes.items) a.places
  pub own : (p : ℕ) (c : ClassFact) → slice_get (facts_at a.classes.items) p ≡ Some c → IsOwn classes c
  pub order : (p : ℕ) (c d : ClassFact) → slice_get (facts_at a.classes.items) p ≡ Some c
      → class_above classes c ≡ Some d
      → (q : ℕ) × (q < p) × (slice_get (facts_at a.classes.items) q ≡ Some d)

-- the class stands among these
abbrev pub Has : Ancestry → ClassFact → Type 0
Has a c = (p : ℕ) × (slice_get (facts_at a.classes.items) p ≡ Some c)

-- the class, if it is one, stands at this place, before another one
abbrev pub StandsAbove : Ancestry → ℕ → Option ClassFact → Option ℕ → Type 0
StandsAbove a n o place = MatchOption o (place ≡ None)
    (λ c. (p : ℕ) × (place ≡ Some p) × (p < n) × (slice_get (facts_at a.classes.items) p ≡ Some c))

-- so does the class, if it is one
abbrev pub HasAny : Ancestry → Option ClassFact → Type 0
HasAny a o = MatchOption o (Unit {0}) (Has a)

-- classes in turn, of which the first is this one, or they are none and it stands among these; the last stands
-- directly below one of these, or below none
abbrev pub EndsBelow : List ClassFact → Ancestry → ClassFact → List ClassFact → Type 0
EndsBelow classes a start cs = (o : Option ClassFact) × AreInTurn classes cs o × HasAny a o
    × (first_or o cs ≡ Some start)

-- all classes stay
abbrev pub KeepClasses : Ancestry → Ancestry → Type 0
KeepClasses old new = (c : ClassFact) → Has old c → Has new c

-- one more class is put after the one that stands directly above it
abbrev pub Adds : List ClassFact → Ancestry → Ancestry → ClassFact → Type 0
Adds classes old new c =
    IsAncestry classes old → HasAny old (class_above classes c)
    → IsAncestry classes new × Has new c × KeepClasses old new

-- the classes of these names have places
abbrev pub HavePlace : List ClassFact → Ancestry → List (List ℕ) → Type 0
HavePlace classes a names = (i : ℕ) (name : List ℕ) (c : ClassFact) → slice_get names i ≡ Some name
    → class_of classes name ≡ Some c → Has a c
