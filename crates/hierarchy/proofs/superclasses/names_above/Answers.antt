use Rattle.std.proofs.Common.{◌≡◌, ◌++◌, ◌-◌, suc, length, map, option_map, refl, subst}
use Rattle.std.specs.Option.{option_copied}
use Rattle.hierarchy.specs.private.Above.{upward, names_above, names_of}
use Rattle.hierarchy.specs.Class.{ClassFact}
use Rattle.hierarchy.specs.Summary.{fact_of}
use Rattle.hierarchy.proofs.Guarding.{one_up}
use Rattle.hierarchy.proofs.superclasses.names_above.Goals as goal

pub loop-at-smaller : goal.loop-at-smaller
loop-at-smaller g c =
    let classes = g.C.Classes.content c.args.classes.now in
    let kept = c.loop-at.above.items in
    let here = subst (λ o. names_above classes c.args.name.now ≡ names_of kept ++ map (λ (c : ClassFact). c.name) (upward classes (suc (length classes) - length kept) (option_map fact_of (option_copied o)))) c.in-Some.is c.loop-at.invariant in
    (one_up classes c.first_above-at.ensures.formed c.args.name.now kept c.push.new.self.items (fact_of c.in-Some.class.now) c.in-Some.class.now.name _ here c.in_ok-push.ensures.items refl c.class_above-at.ensures).1

pub loop-at-preserved : goal.loop-at-preserved
loop-at-preserved g c =
    let classes = g.C.Classes.content c.args.classes.now in
    let kept = c.loop-at.above.items in
    let here = subst (λ o. names_above classes c.args.name.now ≡ names_of kept ++ map (λ (c : ClassFact). c.name) (upward classes (suc (length classes) - length kept) (option_map fact_of (option_copied o)))) c.in-Some.is c.loop-at.invariant in
    (one_up classes c.first_above-at.ensures.formed c.args.name.now kept c.push.new.self.items (fact_of c.in-Some.class.now) c.in-Some.class.now.name _ here c.in_ok-push.ensures.items refl c.class_above-at.ensures).0
