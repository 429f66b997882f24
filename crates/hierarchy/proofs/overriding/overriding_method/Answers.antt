use Rattle.std.proofs.Common.{ap, option_map, sym}
use Rattle.std.specs.Borrow.{Bor}
use Rattle.hierarchy.specs.Summary.{fact_of}
use Rattle.hierarchy.proofs.FinalAnswers.{absent_super, no_overriding, no_super}
use Rattle.hierarchy.proofs.overriding.overriding_method.Goals as goal

pub returns-then-not-has_overriding : goal.returns-then-not-has_overriding
returns-then-not-has_overriding g c = sym (no_overriding (g.C.Classes.content c.args.classes.now) (fact_of c.args.class.now) (c.has_overriding.ensures c.if-not-has_overriding.true))

pub returns-in_default : goal.returns-in_default
returns-in_default g c = sym (no_super (g.C.Classes.content c.args.classes.now) (fact_of c.args.class.now) (ap (option_map (λ (n : Bor _). n.now)) c.in_default.is))

pub returns : goal.returns
returns g c =
    let classes = g.C.Classes.content c.args.classes.now in
    let a = c.in_ok-inheritance.inheritance.ancestry in
    let super = ap (option_map (λ (n : Bor _). n.now)) c.in-Some.is in
    sym (absent_super classes a c.in_ok-inheritance.ensures.good.ancestry (fact_of c.args.class.now) c.in-Some.superclass.now super c.in_ok-inheritance.ensures.placed (c.in_ok-answer-2.ensures.none c.in-None.is c.in-Some.superclass.now super))
