-- The three answers of a comparison of names or types, and those about subclasses (JVMS 4.10.1.2).
use Rattle.std.specs.Prelude.{◌≡◌, ◌≢◌, ◌↔◌, ◌||◌, ℕ, zero, suc, Bool, true, false, List, length, if◌then◌else◌}
use Rattle.std.specs.Option.{option_map_or}
use Rattle.std.specs.Str.{bytes_eq}
use Rattle.hierarchy.specs.declared.answer.Answer.{Answer}
use Rattle.hierarchy.specs.declared.answer.Answer.TheVariants.{Yes, No, Missing}
use Rattle.hierarchy.specs.World.{World, superclass_in}
use Rattle.hierarchy.specs.Class.{ClassFact, class_of, world_of, IsPresent, IsAbsent, IsSubclass}

-- an answer, with the name of the missing class as its bytes
pub data Outcome : Type 0 where
  yes : Outcome
  no : Outcome
  missing : List ℕ → Outcome

abbrev pub outcome_of : Answer → Outcome
outcome_of Yes = yes
outcome_of No = no
outcome_of (Missing name) = missing name.now

-- whether b is a, or is met on so many steps up from a
abbrev pub on_chain : World → ℕ → List ℕ → List ℕ → Bool
on_chain world zero a b = bytes_eq a b
on_chain world (suc n) a b = bytes_eq a b || option_map_or (λ s. on_chain world n s b) (superclass_in world a) false

-- yes where it holds, and no where it does not
abbrev pub yes_if : Bool → Outcome
yes_if true = yes
yes_if false = no

-- the answer about a subclass, as a word that computes: a chain has no more steps than there are classes
abbrev pub subclass_answer : List ClassFact → List ℕ → List ℕ → Outcome
subclass_answer classes a b =
    if bytes_eq a b then yes
    else option_map_or (λ _. yes_if (on_chain (world_of classes) (length classes) a b)) (class_of classes a) (missing a)

-- whether a is b or stands below it; where a is absent, its chain is not known
abbrev pub SubclassAnswer : List ClassFact → List ℕ → List ℕ → Outcome → Type 0
SubclassAnswer classes a b yes = IsSubclass classes a b
SubclassAnswer classes a b no = IsPresent classes a × (IsSubclass classes a b → ⊥)
SubclassAnswer classes a b (missing name) = (name ≡ a) × (a ≢ b) × IsAbsent classes a

-- each question about a subclass has one answer, which the word computes
abbrev pub HasOneSubclassAnswer : Type 0
HasOneSubclassAnswer = (classes : List ClassFact) (a b : List ℕ) (r : Outcome)
    → SubclassAnswer classes a b r ↔ (r ≡ subclass_answer classes a b)
