use Rattle.std.proofs.Common.{drop, map}
use Rattle.hierarchy.specs.Class.{world_of}
use Rattle.machine.specs.Bodies.{method_view}
use Rattle.machine.specs.Views.{state_view, choice_view}
use Rattle.machine.proofs.Leading.{Leads}
use Rattle.machine.proofs.walks.walk.Given as goal

abbrev pub invariant-loop-taken : goal.invariant-loop-taken
invariant-loop-taken g l =
    Leads (world_of (g.C.Classes.content l.classes)) (method_view l.method) (state_view l.state) (map choice_view l.choices) l.taken (state_view l.at) (map choice_view (drop l.taken l.choices))
