use Rattle.std.proofs.Common.{◌≡◌, ◌++◌, ◌-◌, suc, length, map, option_map}
use Rattle.std.specs.Option.{option_copied}
use Rattle.hierarchy.specs.private.Above.{upward, names_above, names_of}
use Rattle.hierarchy.specs.Class.{ClassFact}
use Rattle.hierarchy.specs.Summary.{fact_of}
use Rattle.hierarchy.proofs.superclasses.names_above.Given as goal

abbrev pub invariant-loop-at : goal.invariant-loop-at
invariant-loop-at g l =
    let classes = g.C.Classes.content l.classes in
    names_above classes l.name ≡ names_of l.above.items ++ map (λ (c : ClassFact). c.name) (upward classes (suc (length classes) - length l.above.items) (option_map fact_of (option_copied l.at)))

abbrev pub decreases-loop-at : goal.decreases-loop-at
decreases-loop-at g l = suc (length (g.C.Classes.content l.classes)) - length l.above.items
