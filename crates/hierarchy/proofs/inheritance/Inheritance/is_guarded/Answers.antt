use Rattle.std.proofs.Common.{◌<◌, [], IfSome, arith, length, refl, subst}
use Rattle.hierarchy.specs.private.Ancestry.{facts_at}
use Rattle.hierarchy.specs.private.Inheritance.{IsProtectedAt, LooksAt}
use Rattle.hierarchy.specs.Summary.{asked}
use Rattle.hierarchy.proofs.Lookups.{class_at, looks_above, looks_nowhere, protected_some, start_at, start_free, start_guarded, within}
use Rattle.hierarchy.proofs.inheritance.Inheritance.is_guarded.Goals as goal

pub returns-in_default-clause-guarded : goal.returns-in_default-clause-guarded
returns-in_default-clause-guarded c classes a texts name is at asks same looks =
    looks_nowhere classes c.args.self.now c.args.class a name (subst (LooksAt classes c.args.self.now c.args.class a name) c.in_default.is looks) (asked texts name c.args.member) refl

pub protected_in-requires-clause-there : goal.protected_in-requires-clause-there
protected_in-requires-clause-there c = subst (λ o. IfSome o (λ s. s < length c.args.self.now.table.of.items)) c.in-Some.is c.requires.start

pub protected_in-requires-clause-lookups : goal.protected_in-requires-clause-lookups
protected_in-requires-clause-lookups c = (c.requires.lookups.0, c.requires.lookups.1)

pub index-requires : goal.index-requires
index-requires c =
    let h = c.args.self.now in
    let classes = c.requires.good.0 in
    let is = c.requires.good.1 in
    let texts = c.requires.lookups.0 in
    let r = asked texts [] c.args.member in
    let lt = subst (λ o. IfSome o (λ s. s < length h.table.of.items)) c.in-Some.is c.requires.start in
    let d = class_at classes h is c.in-Some.start lt in
    let told = subst (IsProtectedAt classes (facts_at h.ancestry.classes.items) r d.0.name) c.in-Some-protected_in.is (c.protected_in.ensures.place classes d.0 texts [] is d.1 c.requires.lookups.1 c.requires.lookups.2) in
    let x = protected_some classes (facts_at h.ancestry.classes.items) r d.0.name c.in-Some-protected_in.place told in
    let below = within classes h is c.in-Some-protected_in.place x.0.class x.1 in
    omega (arith, below, h.table.of.ok)

pub returns-in-None-clause-guarded : goal.returns-in-None-clause-guarded
returns-in-None-clause-guarded c classes a texts name is at asks same looks =
    let h = c.args.self.now in
    let r = asked texts name c.args.member in
    let above = looks_above classes h c.args.class a name c.in-Some.start (subst (LooksAt classes h c.args.class a name) c.in-Some.is looks) in
    let d = start_at classes h is c.args.class a at r c.in-Some.start above.0 in
    start_free classes h is c.args.class a at r c.in-Some.start above.0
    (subst (IsProtectedAt classes (facts_at h.ancestry.classes.items) r d.0.name) c.in-None.is (c.protected_in.ensures.place classes d.0 texts name is d.1 asks same))

pub returns-in-Some-protected_in-clause-guarded : goal.returns-in-Some-protected_in-clause-guarded
returns-in-Some-protected_in-clause-guarded c classes a texts name is at asks same looks =
    let h = c.args.self.now in
    let r = asked texts name c.args.member in
    let above = looks_above classes h c.args.class a name c.in-Some.start (subst (LooksAt classes h c.args.class a name) c.in-Some.is looks) in
    let d = start_at classes h is c.args.class a at r c.in-Some.start above.0 in
    start_guarded classes h is c.args.class a at r c.in-Some.start above.0 above.1 (above.2 d.0 d.1) c.in-Some-protected_in.place
    (subst (IsProtectedAt classes (facts_at h.ancestry.classes.items) r d.0.name) c.in-Some-protected_in.is (c.protected_in.ensures.place classes d.0 texts name is d.1 asks same))
    c.index-in-Some-protected_in.result.now c.index.result.now c.requires.there c.index-in-Some-protected_in.ensures c.index.ensures
