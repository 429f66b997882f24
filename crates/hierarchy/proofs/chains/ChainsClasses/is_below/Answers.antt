use Rattle.std.proofs.Common.{◌≡◌, ◌∙◌, ℕ, Bool, true, false, List, Some, refl, sym, ap, subst}
use Rattle.std.specs.Prelude.{◌↔◌, IsTrue}
use Rattle.std.proofs.lemmas.Bool.{false≢true}
use Rattle.hierarchy.specs.Answer.{SubclassAnswer, yes_if}
use Rattle.hierarchy.specs.Class.{ClassFact, IsSubclass}
use Rattle.hierarchy.specs.Places.{place_in}
use Rattle.hierarchy.specs.Rules.{IsHierarchy}
use Rattle.hierarchy.proofs.Names.{some_same}
use Rattle.hierarchy.proofs.RowsKept.{named_at, present_at}
use Rattle.hierarchy.proofs.chains.ChainsClasses.is_below.Goals as goal

-- the answer that a class is below another, or not, where it is present
answered : (classes : List ClassFact) → IsHierarchy classes → (x y : List ℕ) (place : ℕ) → place_in classes x ≡ Some place → (b : Bool) → (IsTrue b ↔ IsSubclass classes x y) → SubclassAnswer classes x y (yes_if b)
answered classes h x y place e true is = is.0 refl
answered classes h x y place e false is = let n = named_at classes h x place e in (present_at classes h x place n.0 n.1 n.2, λ below. false≢true (is.1 below))

pub returns : goal.returns
returns g c = λ x y e f.
    let classes = c.self.inside.index in
    let p = subst (λ (cs : List ClassFact). place_in cs x ≡ Some c.args.a) (sym c.self.view_is) e in
    let q = subst (λ (cs : List ClassFact). place_in cs y ≡ Some c.args.b) (sym c.self.view_is) f in
    let from = some_same (c.in-Some.ensures x (p ∙ ap (λ n. Some n) (sym c.from.ensures))) in
    let to = some_same (c.in-Some-name_at.ensures y (q ∙ ap (λ n. Some n) (sym c.from-2.ensures))) in
    subst (λ (cs : List ClassFact). SubclassAnswer cs x y (yes_if c.reaches.result)) c.self.view_is
    (answered classes c.self.invariant x y c.args.a p c.reaches.result (subst (λ z. IsTrue c.reaches.result ↔ IsSubclass classes x z) to (subst (λ z. IsTrue c.reaches.result ↔ IsSubclass classes z c.in-Some-name_at.to.now) from c.reaches.ensures)))
