use Rattle.std.proofs.Common.{◌∙◌, ap, subst, sym}
use Rattle.std.proofs.lemmas.Bool.{false≢true}
use Rattle.hierarchy.specs.private.Ancestry.{place_among}
use Rattle.hierarchy.specs.private.Inheritance.{LooksAt, above, has_length, nowhere}
use Rattle.hierarchy.proofs.Lookups.{entry_at, no_length, no_place, start_apart, start_at, start_itself}
use Rattle.hierarchy.proofs.inheritance.Inheritance.start.Goals.{then-start-class-via-then-start-class, then-start-class-via-else-start-class+then-not-is_below}
use Rattle.hierarchy.proofs.inheritance.Inheritance.start.Goals as goal

pub returns-then-not-may_be_above : goal.returns-then-not-may_be_above
returns-then-not-may_be_above g c a at =
    let h = c.args.self.now in
    let i = entry_at h.table.of.items c.args.class c.requires.there in
    nowhere (λ r same. sym (no_length (g.C.Classes.content c.args.classes.now) h c.requires.good c.args.class a at r i.0 i.1
    (ap (has_length i.0.lengths) same ∙ sym (c.may_be_above.ensures i.0 i.1) ∙ c.if-not-may_be_above.true)))

pub returns-in_err-start : goal.returns-in_err-start
returns-in_err-start g c a at =
    let classes = g.C.Classes.content c.args.classes.now in
    let h = c.args.self.now in
    subst (LooksAt classes h c.args.class a c.args.name.now) (sym c.from_residual.ensures)
    (nowhere (λ r same. sym (no_place classes h c.requires.good c.args.class a at r (ap (place_among classes h.ancestry.places) same ∙ sym c.place.ensures ∙ c.in_err-start.was))))

pub returns-then-start-class : goal.returns-then-start-class
returns-then-start-class g c a at =
    let classes = g.C.Classes.content c.args.classes.now in
    let is = c.requires.good in
    let h = c.args.self.now in
    let found = sym c.place.ensures ∙ c.in_ok-start.was in
    nowhere (λ r same.
    let here = ap (place_among classes h.ancestry.places) same ∙ found in
    sym (elim c.then-start-class.branch [
      | then-start-class-via-then-start-class w ↦ start_itself classes h is c.args.class a at r c.in_ok-start.start here w.if-start-class.true
      | then-start-class-via-else-start-class+then-not-is_below w ↦
          let d = start_at classes h is c.args.class a at r c.in_ok-start.start here in
          start_apart classes h is c.args.class a at r c.in_ok-start.start here
          (λ sub. false≢true (sym w.if-not-is_below.true ∙ (w.is_below.ensures classes a d.0 is at d.1).1 sub))
    ]))

pub returns : goal.returns
returns g c a at =
    let classes = g.C.Classes.content c.args.classes.now in
    above (sym c.place.ensures ∙ c.in_ok-start.was) c.if-start-class.false (λ d at_d. (c.is_below.ensures classes a d c.requires.good at at_d).0 c.if-not-is_below.false)
