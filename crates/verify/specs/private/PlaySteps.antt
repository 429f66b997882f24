-- Words of the code's own steps through classes in play: nothing that a reader must believe rests on them.
use Rattle.std.specs.Prelude.{◌≡◌, ℕ, ◌+◌, true, List, Result, Ok, Err}
use Rattle.classfile.specs.Methods.{JudgedClass}
use Rattle.hierarchy.specs.Class.{ClassFact}
use Rattle.hierarchy.specs.Rules.{IsHierarchy}
use Rattle.names.specs.declared.met_names.MetNames.{MetNames}
use Rattle.verify.specs.declared.report.Report.{Report}
use Rattle.verify.specs.declared.play.PlayStop.{PlayStop}
use Rattle.verify.specs.declared.play.PlayStop.TheVariants.{OutOfMemory, Broken, Refused}
use Rattle.names.specs.MetNames.{is_met}
use Rattle.verify.specs.Plays.{HasEarlier, IsFine, Breaks, HasRefused}

-- the names of the classes before a place were met, and no others
pub record AreMet (play : List JudgedClass) (place : ℕ) (names : MetNames) : Type 0 where
  pub only : (name : List ℕ) → is_met names name ≡ true → HasEarlier play place name
  pub all : (name : List ℕ) → HasEarlier play place name → is_met names name ≡ true

-- the answer about the class at a place; its name is met afterwards
abbrev pub Judges : List ClassFact → List JudgedClass → ℕ → JudgedClass → MetNames → Result Report PlayStop → Type 0
Judges classes play place c names (Ok report) = IsHierarchy classes × IsFine classes play place c report.methods.items
    × AreMet play (place + 1) names
Judges classes play place c names (Err OutOfMemory) = Unit {0}
Judges classes play place c names (Err (Broken class rule)) = (class ≡ place) × Breaks classes play place c rule
Judges classes play place c names (Err (Refused class number method)) = (class ≡ place)
    × HasRefused classes play place c number method
