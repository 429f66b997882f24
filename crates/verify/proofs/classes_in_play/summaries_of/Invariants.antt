-- The classes so far were summarised.
use Rattle.std.proofs.Common.{◌≡◌, map, take}
use Rattle.classfile.specs.CodeMethods.{judged_class}
use Rattle.verify.specs.Together.{facts_in}
use Rattle.hierarchy.specs.Summary.{facts_of}
use Rattle.verify.proofs.classes_in_play.summaries_of.Given as goal

abbrev pub invariant-loop-class : goal.invariant-loop-class
invariant-loop-class l = facts_of l.summaries.items ≡ facts_in (map judged_class (take l.class-index l.play))
