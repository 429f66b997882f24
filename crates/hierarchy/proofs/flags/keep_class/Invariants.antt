use Rattle.std.proofs.Common.{◌≡◌, ◌≤◌, ℕ, List, [], ◌∷◌, ◌++◌, drop, length, map}
use Rattle.hierarchy.specs.Class.{ClassFact}
use Rattle.hierarchy.specs.private.Above.{Numbers}
use Rattle.hierarchy.specs.private.Flags.{AreFlags, AreNumbers}
use Rattle.hierarchy.specs.private.TextNumbers.{AreFound}
use Rattle.hierarchy.specs.Nearest.{is_elsewhere}
use Rattle.hierarchy.specs.Summary.{member_of, fact_of}
use Rattle.hierarchy.proofs.Guards.{with_members}
use Rattle.hierarchy.proofs.flags.keep_class.Given as goal

abbrev pub invariant-loop-left : goal.invariant-loop-left
invariant-loop-left l = record {
  found : (numbers : Numbers) → AreFound numbers l.class.texts.items l.initial.lookups → AreFound numbers l.class.texts.items l.lookups;
  among : (numbers : Numbers) × AreFound numbers l.class.texts.items l.lookups;
  kept : (numbers : Numbers) → AreNumbers numbers → AreFound numbers l.class.texts.items l.initial.lookups
      → (class : List ℕ) (classes : List ClassFact) → length classes ≡ l.place → l.elsewhere ≡ is_elsewhere class l.class.name.now → AreFlags numbers class classes l.initial.flags
      → AreFlags numbers class (classes ++ with_members (fact_of l.class) (map (member_of l.class.texts.items) (drop l.left l.class.members.items)) ∷ []) l.flags;
  within : l.left ≤ length l.class.members.items;
}

abbrev pub decreases-loop-left : goal.decreases-loop-left
decreases-loop-left l = l.left
