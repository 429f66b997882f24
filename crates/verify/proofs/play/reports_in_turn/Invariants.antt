-- The numbers are those of this hierarchy. Each class so far breaks no rule, and its name was met.
use Rattle.std.proofs.Common.{◌≡◌, ◌<◌, length, map}
use Rattle.classfile.specs.CodeMethods.{judged_class}
use Rattle.hierarchy.specs.Rules.{IsHierarchy}
use Rattle.verify.specs.Plays.{AreFine}
use Rattle.verify.specs.private.PlaySteps.{AreMet}
use Rattle.verify.proofs.play.reports_in_turn.Given as goal

abbrev pub invariant-loop-class : goal.invariant-loop-class
invariant-loop-class g l =
    (l.numbers.classes ≡ g.C.Classes.content l.classes)
    × (length l.reports.items ≡ l.class)
    × AreFine (g.C.Classes.content l.classes) (map judged_class l.play) l.reports.items
    × AreMet (map judged_class l.play) l.class l.names
    × (0 < l.class → IsHierarchy (g.C.Classes.content l.classes))
