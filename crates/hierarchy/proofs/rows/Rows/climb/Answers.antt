use Rattle.std.proofs.Common.{◌≡◌, ◌∙◌, Option, Some, None, List, ℕ, position, refl, sym, subst, inl, inr}
use Rattle.std.specs.Cmp.Lexicographic.{same_text, other_text}
use Rattle.std.specs.Str.{bytes_eq}
use Rattle.hierarchy.specs.World.{same}
use Rattle.hierarchy.specs.Class.{ClassFact, IsSubclass}
use Rattle.hierarchy.specs.Places.{place_in}
use Rattle.hierarchy.specs.Rows.{IsLookedUp}
use Rattle.hierarchy.proofs.Names.{no_place}
use Rattle.hierarchy.proofs.Depths.{some_depth}
use Rattle.hierarchy.proofs.RowsKept.{looked_absent, looked_same, not_below_absent, present_at, named_at}
use Rattle.hierarchy.proofs.rows.Rows.climb.Goals as goal

none_there : {X : Type 0} (o : Option X) → ((x : X) → o ≡ Some x → ⊥) → o ≡ None
none_there None f = refl
none_there (Some x) f = absurd (f x refl)

absent : (classes : List ClassFact) (a : List ℕ) (o : Option ℕ) → o ≡ position (λ c. bytes_eq a c.name) classes → ((x : ℕ) → o ≡ Some x → ⊥) → position (λ c. bytes_eq a c.name) classes ≡ None
absent classes a o e f = sym e ∙ none_there o f

pub returns-then-eq-clause-answer : goal.returns-then-eq-clause-answer
returns-then-eq-clause-answer g c = subst (λ x. IsSubclass c.args.self.now c.args.a.now x) (same_text _ _ c.if-eq.ensures) same

pub returns-then-eq-clause-looked : goal.returns-then-eq-clause-looked
returns-then-eq-clause-looked g c = rw (← c.self.view_is) (subst (λ x. IsLookedUp c.self.inside.index c.args.a.now x 0) (same_text _ _ c.if-eq.ensures) (looked_same c.self.inside.index c.self.invariant.0 c.args.a.now))

pub returns-in_default-clause-answer : goal.returns-in_default-clause-answer
returns-in_default-clause-answer g c =
    let classes = c.self.inside.index in
    let a = c.args.a.now in
    rw (← c.self.view_is) (refl, other_text _ _ c.if-eq.ensures, no_place (λ (d : ClassFact). bytes_eq a d.name) classes (absent classes a c.place.result c.place.ensures c.in_default.not-Some))

pub returns-in_default-clause-looked : goal.returns-in_default-clause-looked
returns-in_default-clause-looked g c =
    let classes = c.self.inside.index in
    let a = c.args.a.now in
    rw (← c.self.view_is) (looked_absent classes c.self.invariant.0 a c.args.b.now (inl (no_place (λ (d : ClassFact). bytes_eq a d.name) classes (absent classes a c.place.result c.place.ensures c.in_default.not-Some))))

pub returns-in_default-place-clause-answer : goal.returns-in_default-place-clause-answer
returns-in_default-place-clause-answer g c =
    let classes = c.self.inside.index in
    let b = c.args.b.now in
    let h = c.self.invariant.0 in
    let x = named_at classes h c.args.a.now c.in-Some.from (sym c.in-Some.ensures) in
    let low = some_depth classes h c.args.a.now (c.in-Some.from, x.0, x.1, x.2) in
    rw (← c.self.view_is) (present_at classes h c.args.a.now c.in-Some.from x.0 x.1 x.2, not_below_absent classes h c.args.a.now b low.0 low.1 (no_place (λ (d : ClassFact). bytes_eq b d.name) classes (absent classes b c.place-2.result c.place-2.ensures c.in_default-place.not-Some)))

pub returns-in_default-place-clause-looked : goal.returns-in_default-place-clause-looked
returns-in_default-place-clause-looked g c =
    let classes = c.self.inside.index in
    let b = c.args.b.now in
    rw (← c.self.view_is) (looked_absent classes c.self.invariant.0 c.args.a.now b (inr (no_place (λ (d : ClassFact). bytes_eq b d.name) classes (absent classes b c.place-2.result c.place-2.ensures c.in_default-place.not-Some))))

pub returns-clause-answer : goal.returns-clause-answer
returns-clause-answer g c =
    let from = subst (λ (cs : List ClassFact). place_in cs c.args.a.now ≡ Some c.in-Some.from) c.self.view_is (sym c.in-Some.ensures) in
    let to = subst (λ (cs : List ClassFact). place_in cs c.args.b.now ≡ Some c.in-Some-place.to) c.self.view_is (sym c.in-Some-place.ensures) in
    rw c.yes_if.ensures (c.climb_at-below.ensures.answer c.args.a.now c.args.b.now from to)

pub returns-clause-looked : goal.returns-clause-looked
returns-clause-looked g c =
    let from = subst (λ (cs : List ClassFact). place_in cs c.args.a.now ≡ Some c.in-Some.from) c.self.view_is (sym c.in-Some.ensures) in
    let to = subst (λ (cs : List ClassFact). place_in cs c.args.b.now ≡ Some c.in-Some-place.to) c.self.view_is (sym c.in-Some-place.ensures) in
    c.climb_at-below.ensures.looked c.args.a.now c.args.b.now from to
