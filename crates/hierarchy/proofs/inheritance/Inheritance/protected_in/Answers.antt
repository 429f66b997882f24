use Rattle.std.proofs.Common.{◌∙◌, ◌-◌, Some, ap, refl, sym, subst}
use Rattle.hierarchy.specs.private.Ancestry.{facts_at}
use Rattle.hierarchy.specs.private.Inheritance.{IsProtectedAt}
use Rattle.hierarchy.specs.private.Sketches.{has_sketch}
use Rattle.hierarchy.specs.Summary.{asked}
use Rattle.hierarchy.specs.private.Versions.{value_at}
use Rattle.hierarchy.proofs.Lookups.{coded_none, coded_some, inherits_at, inherits_of, unsketched}
use Rattle.hierarchy.proofs.Descent.{no_number}
use Rattle.hierarchy.proofs.inheritance.Inheritance.protected_in.Goals as goal

pub has_sketch-requires : goal.has_sketch-requires
has_sketch-requires c =
    (inherits_at c.requires.good.0 c.args.self.now c.requires.good.1 c.args.class c.index-inherited.result.now c.requires.there c.index-inherited.ensures).2.wide

pub returns-then-not-has_sketch-clause-place : goal.returns-then-not-has_sketch-clause-place
returns-then-not-has_sketch-clause-place c classes a texts name is at asks same =
    let i = c.index-inherited.result.now in
    unsketched classes c.args.self.now is c.args.class i a c.requires.there c.index-inherited.ensures at (asked texts name c.args.member)
    (ap (has_sketch i.sketches) (sym same) ∙ sym c.has_sketch.ensures ∙ c.if-not-has_sketch.true)

pub returns-in_err-number-clause-place : goal.returns-in_err-number-clause-place
returns-in_err-number-clause-place c classes a texts name is at asks same =
    let h = c.args.self.now in
    let told = (c.get.ensures h.numbers texts asks).1 in
    subst (IsProtectedAt classes (facts_at h.ancestry.classes.items) (asked texts name c.args.member) a.name) (sym c.from_residual.ensures)
    (no_number classes (facts_at h.ancestry.classes.items) h.ancestry refl is.ancestry h.numbers is.numbered (asked texts name c.args.member) (sym told ∙ c.in_err-number.was) c.args.class a at)

pub get-place-requires-clause-there : goal.get-place-requires-clause-there
get-place-requires-clause-there c =
    (inherits_at c.requires.good.0 c.args.self.now c.requires.good.1 c.args.class c.index-inherited.result.now c.requires.there c.index-inherited.ensures).2.is_members

pub returns-then-place-eq0-clause-place : goal.returns-then-place-eq0-clause-place
returns-then-place-eq0-clause-place c classes a texts name is at asks same =
    let h = c.args.self.now in
    let told = (c.get.ensures h.numbers texts asks).1 in
    let r = asked texts name c.args.member in
    let x = inherits_of classes h is c.args.class c.index-inherited.result.now a c.requires.there c.index-inherited.ensures at in
    coded_none classes (facts_at h.ancestry.classes.items) r a.name (value_at h.table.versions c.index-inherited.result.now.members c.in_ok-number.number) (x.members r c.in_ok-number.number (sym told ∙ c.in_ok-number.was))
    (sym c.get-place.ensures ∙ c.if-place-eq0.true)

pub returns-else-place-eq0-clause-place : goal.returns-else-place-eq0-clause-place
returns-else-place-eq0-clause-place c classes a texts name is at asks same =
    let h = c.args.self.now in
    let told = (c.get.ensures h.numbers texts asks).1 in
    let r = asked texts name c.args.member in
    let all = facts_at h.ancestry.classes.items in
    let x = inherits_of classes h is c.args.class c.index-inherited.result.now a c.requires.there c.index-inherited.ensures at in
    subst (λ v. IsProtectedAt classes all r a.name (Some (v - 1))) (sym c.get-place.ensures)
    (coded_some classes all r a.name (value_at h.table.versions c.index-inherited.result.now.members c.in_ok-number.number) (x.members r c.in_ok-number.number (sym told ∙ c.in_ok-number.was))
    (λ z. c.if-place-eq0.false (c.get-place.ensures ∙ z)))
