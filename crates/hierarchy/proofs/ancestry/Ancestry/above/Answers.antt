use Rattle.std.proofs.Common.{subst, sym}
use Rattle.hierarchy.specs.private.Ancestry.{StandsAbove}
use Rattle.hierarchy.specs.Summary.{fact_of}
use Rattle.hierarchy.proofs.InOrder.{place_above}
use Rattle.hierarchy.proofs.ancestry.Ancestry.above.Goals as goal

pub returns-in-Some : goal.returns-in-Some
returns-in-Some g c n at =
    let classes = g.C.Classes.content c.args.classes.now in
    let a = c.args.self.now in
    subst (λ o. StandsAbove a n o c.place.result) c.in-Some.ensures
    (place_above classes a c.requires n (fact_of c.args.class.now) (fact_of c.in-Some.above.now) c.place.result at (sym c.in-Some.ensures) c.place.ensures)
