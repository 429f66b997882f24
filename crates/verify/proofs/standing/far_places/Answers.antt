use Rattle.std.proofs.Common.{◌≡◌, ◌∙◌, ◌+◌, ◌^◌, map, ap, subst, arith, pow-add}
use Rattle.hierarchy.specs.Ancestors.{place_after}
use Rattle.hierarchy.specs.Summary.{fact_of, facts_of}
use Rattle.hierarchy.proofs.Ancestors.{table_of}
use Rattle.verify.specs.private.EachSteps.{next_place, LeadsAhead}
use Rattle.verify.proofs.Standings.{leads_once, leads_twice}
use Rattle.verify.proofs.standing.far_places.Goals as goal

pub loop-init : goal.loop-init
loop-init c =
    let g = c.args.gathered.now in
    leads_once (facts_of g.classes.items) g.places c.requires c.in_ok-places.places.items
    (c.in_ok-places.ensures ∙ ap (map (λ s. next_place g.places (fact_of s))) c.deref.ensures.value ∙ table_of (next_place g.places) g.classes.items)

pub loop-preserved : goal.loop-preserved
loop-preserved c =
    let classes = facts_of c.args.gathered.now.classes.items in
    let k = c.loop.counter in
    let pow = pow-add 2 k 1 in
    let more : 2 ^ k + 2 ^ k ≡ 2 ^ (k + 1) = omega (arith, pow) in
    subst (λ n. LeadsAhead classes n c.in_ok-places-2.places.items) more
    (leads_twice classes (2 ^ k) c.loop.places.items c.loop.invariant c.in_ok-places-2.places.items
    (c.in_ok-places-2.ensures ∙ ap (λ ps. map (place_after ps) ps) c.deref-in-loop.ensures.value))

pub returns : goal.returns
returns c =
    let all : c.loop.counter ≡ 16 = omega (arith, c.loop-test.false, c.loop.auto.counter-end) in
    subst (λ k. LeadsAhead (facts_of c.args.gathered.now.classes.items) (2 ^ k) c.loop.places.items) all c.loop.invariant
