use Rattle.std.proofs.Common.{◌∙◌, ◌+◌, length, map, ap, subst, arith}
use Rattle.std.proofs.lemmas.List.{length-map}
use Rattle.hierarchy.specs.Summary.{fact_of, facts_of}
use Rattle.hierarchy.specs.Ancestors.{superclass_place, place_after, HasNone, IsLowest}
use Rattle.hierarchy.proofs.Ancestors.{first_table, next_table, halved, table_of, none_first, place_within, first_name}
use Rattle.hierarchy.proofs.cycles.first_on_cycle.Goals as goal

pub loop-left-init : goal.loop-left-init
loop-left-init g c =
    let classes = facts_of c.args.classes.now in
    let e = length-map c.args.classes.now fact_of in
    record {
      steps = 1;
      some = omega arith;
      many = omega (arith, e);
      ancestors = first_table classes c.requires.one_each c.in_ok-places.places.items
          (c.in_ok-places.ensures ∙ ap (λ known. map (λ c. superclass_place known (fact_of c)) c.args.classes.now) c.requires.same ∙ table_of (superclass_place classes) c.args.classes.now);
    }

pub loop-left-preserved : goal.loop-left-preserved
loop-left-preserved g c =
    let classes = facts_of c.args.classes.now in
    let d = c.loop-left.invariant in
    record {
      steps = d.steps + d.steps;
      some = omega (arith, d.some);
      many = halved (length classes) c.loop-left.left d.steps d.many;
      ancestors = next_table classes c.requires.one_each d.steps c.loop-left.places.items c.in_ok-places-2.places.items d.some
          (c.in_ok-places-2.ensures ∙ ap (λ ps. map (place_after ps) ps) c.deref.ensures.value) d.ancestors;
    }

pub returns-in-None : goal.returns-in-None
returns-in-None g c =
    none_first c.args.classes.now c.requires.one_each c.loop-left.left c.loop-left.places.items (omega (arith, c.loop-left-test.false)) c.loop-left.invariant
    (subst HasNone c.deref-2.ensures.value c.in-None.ensures)

pub name_at-requires : goal.name_at-requires
name_at-requires g c =
    place_within c.args.classes.now c.requires.one_each c.loop-left.left c.loop-left.places.items (omega (arith, c.loop-left-test.false)) c.loop-left.invariant c.in-Some.place
    (subst (λ ps. IsLowest ps c.in-Some.place) c.deref-2.ensures.value c.in-Some.ensures)

pub returns : goal.returns
returns g c =
    first_name c.args.classes.now c.requires.one_each c.loop-left.left c.loop-left.places.items (omega (arith, c.loop-left-test.false)) c.loop-left.invariant c.in-Some.place c.name_at.result.now
    (subst (λ ps. IsLowest ps c.in-Some.place) c.deref-2.ensures.value c.in-Some.ensures) c.name_at.ensures
