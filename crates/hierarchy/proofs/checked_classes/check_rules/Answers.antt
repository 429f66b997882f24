use Rattle.std.proofs.lemmas.Bool.{false≢true}
use Rattle.std.proofs.lemmas.List.{length-map}
use Rattle.std.proofs.Common.{◌≡◌, ◌∙◌, Option, Some, None, MatchOption, refl, sym, subst, arith}
use Rattle.hierarchy.specs.Summary.{fact_of, facts_of}
use Rattle.hierarchy.specs.Rules.{IsOnCycle, LacksSuper, HasObject, NoClass, IsFirst}
use Rattle.hierarchy.specs.Faults.{once, no_cycle, superclasses, object, array_interfaces, few_classes}
use Rattle.hierarchy.proofs.OneFault.{none_before, one_more}
use Rattle.hierarchy.proofs.checked_classes.check_rules.Goals as goal

none_there : {X : Type 0} (o : Option X) (P : Type 0) (Q : X → Type 0) → ((x : X) → o ≡ Some x → ⊥) → MatchOption o P Q → P
none_there None P Q h m = m
none_there (Some x) P Q h m = absurd (h x refl)

pub returns-in-Some-clause-err : goal.returns-in-Some-clause-err
returns-in-Some-clause-err g c =
    let facts = facts_of c.args.classes.now in
    (rw c.in-Some.is at c.in_ok-on_cycle.ensures, one_more facts once (none_before facts) c.requires.one_each)

pub returns-in-Some-first_breaking-clause-err : goal.returns-in-Some-first_breaking-clause-err
returns-in-Some-first_breaking-clause-err g c =
    let facts = facts_of c.args.classes.now in
    let acyclic = none_there c.in_ok-on_cycle.on_cycle (NoClass (IsOnCycle facts) facts) (λ n. IsFirst (IsOnCycle facts) facts n.now) c.in_default.not-Some c.in_ok-on_cycle.ensures in (
      subst (λ v. IsFirst (LacksSuper v) facts c.in-Some-first_breaking.name.now) c.requires.same c.in-Some-first_breaking.ensures,
      one_more facts no_cycle (one_more facts once (none_before facts) c.requires.one_each) acyclic,
    )

pub returns-then-not-has_object-clause-err : goal.returns-then-not-has_object-clause-err
returns-then-not-has_object-clause-err g c =
    let facts = facts_of c.args.classes.now in
    let acyclic = none_there c.in_ok-on_cycle.on_cycle (NoClass (IsOnCycle facts) facts) (λ n. IsFirst (IsOnCycle facts) facts n.now) c.in_default.not-Some c.in_ok-on_cycle.ensures in
    let rooted = subst (λ v. NoClass (LacksSuper v) facts) c.requires.same c.in_default-first_breaking.ensures in
    let b = one_more facts superclasses (one_more facts no_cycle (one_more facts once (none_before facts) c.requires.one_each) acyclic) rooted in
    (λ h. false≢true (sym c.if-not-has_object.true ∙ c.has_object.ensures.1 (subst HasObject (sym c.requires.same) h)), b)

pub returns-in-Some-first_breaking-2-clause-err : goal.returns-in-Some-first_breaking-2-clause-err
returns-in-Some-first_breaking-2-clause-err g c =
    let facts = facts_of c.args.classes.now in
    let acyclic = none_there c.in_ok-on_cycle.on_cycle (NoClass (IsOnCycle facts) facts) (λ n. IsFirst (IsOnCycle facts) facts n.now) c.in_default.not-Some c.in_ok-on_cycle.ensures in
    let rooted = subst (λ v. NoClass (LacksSuper v) facts) c.requires.same c.in_default-first_breaking.ensures in
    let there = subst HasObject c.requires.same (c.has_object.ensures.0 c.if-not-has_object.false) in
    let b = one_more facts object (one_more facts superclasses (one_more facts no_cycle (one_more facts once (none_before facts) c.requires.one_each) acyclic) rooted) there in
    (c.in-Some-first_breaking-2.ensures, b)

pub returns-then-classes-gt65535-clause-err : goal.returns-then-classes-gt65535-clause-err
returns-then-classes-gt65535-clause-err g c =
    let facts = facts_of c.args.classes.now in
    let e = length-map c.args.classes.now fact_of in
    let acyclic = none_there c.in_ok-on_cycle.on_cycle (NoClass (IsOnCycle facts) facts) (λ n. IsFirst (IsOnCycle facts) facts n.now) c.in_default.not-Some c.in_ok-on_cycle.ensures in
    let rooted = subst (λ v. NoClass (LacksSuper v) facts) c.requires.same c.in_default-first_breaking.ensures in
    let there = subst HasObject c.requires.same (c.has_object.ensures.0 c.if-not-has_object.false) in
    let b = one_more facts object (one_more facts superclasses (one_more facts no_cycle (one_more facts once (none_before facts) c.requires.one_each) acyclic) rooted) there in
    (omega (arith, e, c.if-classes-gt65535.true), one_more facts array_interfaces b c.in_default-first_breaking-2.ensures)

pub returns-in-Some-first_breaking-3-clause-err : goal.returns-in-Some-first_breaking-3-clause-err
returns-in-Some-first_breaking-3-clause-err g c =
    let facts = facts_of c.args.classes.now in
    let e = length-map c.args.classes.now fact_of in
    let acyclic = none_there c.in_ok-on_cycle.on_cycle (NoClass (IsOnCycle facts) facts) (λ n. IsFirst (IsOnCycle facts) facts n.now) c.in_default.not-Some c.in_ok-on_cycle.ensures in
    let rooted = subst (λ v. NoClass (LacksSuper v) facts) c.requires.same c.in_default-first_breaking.ensures in
    let there = subst HasObject c.requires.same (c.has_object.ensures.0 c.if-not-has_object.false) in
    let b = one_more facts object (one_more facts superclasses (one_more facts no_cycle (one_more facts once (none_before facts) c.requires.one_each) acyclic) rooted) there in
    (c.in-Some-first_breaking-3.ensures, one_more facts few_classes (one_more facts array_interfaces b c.in_default-first_breaking-2.ensures) (omega (arith, e, c.if-classes-gt65535.false)))

pub returns-clause-ok : goal.returns-clause-ok
returns-clause-ok g c =
    let facts = facts_of c.args.classes.now in
    let e = length-map c.args.classes.now fact_of in
    record {
      one_each = c.requires.one_each;
      acyclic = none_there c.in_ok-on_cycle.on_cycle (NoClass (IsOnCycle facts) facts) (λ n. IsFirst (IsOnCycle facts) facts n.now) c.in_default.not-Some c.in_ok-on_cycle.ensures;
      rooted = subst (λ v. NoClass (LacksSuper v) facts) c.requires.same c.in_default-first_breaking.ensures;
      object = subst HasObject c.requires.same (c.has_object.ensures.0 c.if-not-has_object.false);
      arrays = c.in_default-first_breaking-2.ensures;
      few = omega (arith, e, c.if-classes-gt65535.false);
      interfaces = c.in_default-first_breaking-3.ensures;
    }
