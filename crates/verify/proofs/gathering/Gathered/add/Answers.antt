use Rattle.std.proofs.Common.{◌≡◌, ◌∙◌, ◌∷◌, [], false, Option, Some, None, option_map, is_some, cond, length, ap, sym, subst, refl, arith}
use Rattle.std.specs.Str.{bytes_eq}
use Rattle.std.proofs.lemmas.List.{map-append, length-map}
use Rattle.std.proofs.lemmas.Map.Text.{btree_map_updates_str}
use Rattle.hierarchy.specs.Summary.{fact_of, facts_of}
use Rattle.verify.specs.private.EachSteps.{ArePlaced, place_kept}
use Rattle.verify.proofs.Standings.{with_same, with_more, placed_more}
use Rattle.verify.proofs.gathering.Gathered.add.Goals as goal

some_mapped : {A B : Type 0} (f : A → B) (o : Option A) → is_some (option_map f o) ≡ is_some o
some_mapped f None = refl
some_mapped f (Some a) = refl

none_of : {A : Type 0} (o : Option A) → is_some o ≡ false → o ≡ None
none_of None e = refl
none_of (Some a) e = absurd cc

pub returns-then-is_some-clause-added : goal.returns-then-is_some-clause-added
returns-then-is_some-clause-added c =
    let g = c.args.self.now in
    with_same (facts_of g.classes.items) g.places c.requires.placed (fact_of c.args.class)
    (ap is_some (sym c.get.ensures.value) ∙ some_mapped _ c.get.result ∙ sym c.is_some.ensures ∙ c.if-is_some.true)

pub returns-clause-added : goal.returns-clause-added
returns-clause-added c =
    let g = c.args.self.now in
    let none = none_of (place_kept g.places c.args.class.name.now) (ap is_some (sym c.get.ensures.value) ∙ some_mapped _ c.get.result ∙ sym c.is_some.ensures ∙ c.if-is_some.false) in
    ap facts_of c.in_ok-push.ensures.items ∙ map-append fact_of g.classes.items (c.args.class ∷ []) ∙ with_more (facts_of g.classes.items) g.places c.requires.placed (fact_of c.args.class) none

pub returns-clause-placed : goal.returns-clause-placed
returns-clause-placed c =
    let g = c.args.self.now in
    let name = c.args.class.name.now in
    let none = none_of (place_kept g.places name) (ap is_some (sym c.get.ensures.value) ∙ some_mapped _ c.get.result ∙ sym c.is_some.ensures ∙ c.if-is_some.false) in
    let count : c.len.result ≡ length (facts_of g.classes.items) = omega (arith, c.len.ensures, g.classes.ok.0, length-map g.classes.items fact_of) in
    subst (λ cs. ArePlaced cs c.insert.new.self) (sym (ap facts_of c.in_ok-push.ensures.items ∙ map-append fact_of g.classes.items (c.args.class ∷ [])))
    (placed_more (facts_of g.classes.items) g.places c.requires.placed (fact_of c.args.class) none c.insert.new.self
    (λ other. btree_map_updates_str name g.places c.insert.new.self _ c.in_ok-insert.ensures.updates other
    ∙ ap (λ n. cond (bytes_eq name other) (Some n) (place_kept g.places other)) count))
