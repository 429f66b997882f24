use Rattle.std.proofs.Common.{◌≡◌, ◌∙◌, ◌<◌, ℕ, List, Some, nat_eq, length, rules, refl, sym, ap, subst, arith}
use Rattle.std.proofs.lemmas.Bool.{eqb-true, eq-eqb}
use Rattle.hierarchy.specs.World.{same}
use Rattle.hierarchy.specs.Class.{ClassFact, IsSubclass}
use Rattle.hierarchy.specs.Places.{place_in}
use Rattle.hierarchy.specs.Rows.{IsDepth, IsLookedUp}
use Rattle.hierarchy.proofs.Names.{some_same}
use Rattle.hierarchy.proofs.PlacesKept.{places_are_names}
use Rattle.hierarchy.proofs.RowsKept.{class_at, looked_same, looked_high, looked_deep, not_below_higher, met, present_at, named_at, kept_depth}
use Rattle.hierarchy.proofs.rows.Rows.climb_at.Goals as goal

pub returns-then-from-to-clause-answer : goal.returns-then-from-to-clause-answer
returns-then-from-to-clause-answer g c = λ a b p q.
    let classes = c.args.self.now in
    subst (λ x. IsSubclass classes a x) (places_are_names classes a b c.args.to (p ∙ ap (λ n. Some n) c.if-from-to.true) q) same

pub returns-then-from-to-clause-looked : goal.returns-then-from-to-clause-looked
returns-then-from-to-clause-looked g c = rw (← c.self.view_is) (λ a b p q.
    let classes = c.self.inside.index in
    subst (λ x. IsLookedUp classes a x 0) (places_are_names classes a b c.args.to (p ∙ ap (λ n. Some n) c.if-from-to.true) q) (looked_same classes c.self.invariant.0 a))

pub returns-then-low-high-clause-answer : goal.returns-then-low-high-clause-answer
returns-then-low-high-clause-answer g c = rw (← c.self.view_is) (λ a b p q.
    let classes = c.self.inside.index in
    let rows = c.self.inside.rows in
    let h = c.self.invariant.0 in
    let r = c.self.invariant.1 in
    let x = named_at classes h a c.args.from p in
    let y = named_at classes h b c.args.to q in
    let low = kept_depth classes h rows.depths.items rows.starts.items rows.entries.items r a c.args.from c.index.result.now x c.index.ensures in
    let high = kept_depth classes h rows.depths.items rows.starts.items rows.entries.items r b c.args.to c.index-2.result.now y c.index-2.ensures in (
      present_at classes h a c.args.from x.0 x.1 x.2,
      not_below_higher classes h a b c.index.result.now c.index-2.result.now low high (λ e. c.if-from-to.false (some_same (sym p ∙ ap (place_in classes) e ∙ q))) c.if-low-high.true,
    ))

pub returns-then-low-high-clause-looked : goal.returns-then-low-high-clause-looked
returns-then-low-high-clause-looked g c = rw (← c.self.view_is) (λ a b p q.
    let classes = c.self.inside.index in
    let rows = c.self.inside.rows in
    let h = c.self.invariant.0 in
    let r = c.self.invariant.1 in
    let low = kept_depth classes h rows.depths.items rows.starts.items rows.entries.items r a c.args.from c.index.result.now (named_at classes h a c.args.from p) c.index.ensures in
    let high = kept_depth classes h rows.depths.items rows.starts.items rows.entries.items r b c.args.to c.index-2.result.now (named_at classes h b c.args.to q) c.index-2.ensures in
    looked_high classes h a b c.index.result.now c.index-2.result.now low high c.if-low-high.true)

pub above-above-requires-clause-deep : goal.above-above-requires-clause-deep
above-above-requires-clause-deep g c =
    let classes = c.self.inside.index in
    let rows = c.self.inside.rows in
    let h = c.self.invariant.0 in
    let r = c.self.invariant.1 in
    let each = r.depth_each in
    let less : c.args.from < length rows.depths.items = search rules in
    let (x, there) = class_at classes h c.args.from (omega (arith, each, less)) in
    let low = kept_depth classes h rows.depths.items rows.starts.items rows.entries.items r x.name c.args.from c.index.result.now (x, there, refl) c.index.ensures in
    rw (← c.self.view_is) (x, c.index.result.now, there, low, omega arith)

pub returns-clause-answer : goal.returns-clause-answer
returns-clause-answer g c =
    let up = rw (← c.self.view_is) at c.above-above.ensures.there in
    rw (← c.self.view_is) (λ a b p q.
    let classes = c.self.inside.index in
    let rows = c.self.inside.rows in
    let h = c.self.invariant.0 in
    let r = c.self.invariant.1 in
    let x = named_at classes h a c.args.from p in
    let y = named_at classes h b c.args.to q in
    let low = kept_depth classes h rows.depths.items rows.starts.items rows.entries.items r a c.args.from c.index.result.now x c.index.ensures in
    let high = kept_depth classes h rows.depths.items rows.starts.items rows.entries.items r b c.args.to c.index-2.result.now y c.index-2.ensures in
    let to = c.args.to in
    met classes h a b c.index.result.now c.index-2.result.now low high c.args.from c.above-above.result.0 to (nat_eq c.from.result to) up x y
    (λ e. sym c.from.ensures ∙ eqb-true c.from.result to e) (λ e. eq-eqb c.from.result to (c.from.ensures ∙ e)))

pub returns-clause-looked : goal.returns-clause-looked
returns-clause-looked g c = rw (← c.self.view_is) (λ a b p q.
    let classes = c.self.inside.index in
    let rows = c.self.inside.rows in
    let h = c.self.invariant.0 in
    let r = c.self.invariant.1 in
    let low = kept_depth classes h rows.depths.items rows.starts.items rows.entries.items r a c.args.from c.index.result.now (named_at classes h a c.args.from p) c.index.ensures in
    let high = kept_depth classes h rows.depths.items rows.starts.items rows.entries.items r b c.args.to c.index-2.result.now (named_at classes h b c.args.to q) c.index-2.ensures in
    looked_deep classes h a b c.index.result.now c.index-2.result.now low high c.above-above.result.1 c.if-low-high.false c.above-above.ensures.looked c.above-above.ensures.few)
