use Rattle.std.proofs.Common.{◌≡◌, ◌∙◌, ◌/◌, ℕ, List, Some, sym, ap, subst, arith}
use Rattle.std.proofs.lemmas.Bool.Decides.{nat_tests}
use Rattle.hierarchy.specs.Answer.{SubclassAnswer, yes_if}
use Rattle.hierarchy.specs.Class.{ClassFact}
use Rattle.hierarchy.specs.Places.{place_in}
use Rattle.type_numbers.proofs.Dimensions.{class_flat}
use Rattle.verify.proofs.numbered.Above.{below_unguarded, own_unguarded, same_class}
use Rattle.verify.proofs.pass.members.may_be_above.Goals as goal

pub returns-then-class-own : goal.returns-then-class-own
returns-then-class-own g c = λ s r name same a b e.
    let one : c.args.class ≡ c.args.own = grind (arith, nat_tests, c.if-class-own.true) in
    own_unguarded s.classes name r (same_class s c.args.class c.args.own r.class name one a b)

pub returns-then-parts-gt0 : goal.returns-then-parts-gt0
returns-then-parts-gt0 g c = λ s r name same a b e.
    let flat = class_flat s c.args.class r.class a in
    absurd (grind (arith, nat_tests, flat, c.of-parts.ensures.dims, c.if-parts-gt0.true))

pub returns-then-own_parts-eq-CLASS : goal.returns-then-own_parts-eq-CLASS
returns-then-own_parts-eq-CLASS g c = λ s r name same a b e.
    let tag : c.args.class / 16777216 ≡ 7 = grind (arith, nat_tests, c.of-parts.ensures.tag, c.if-parts-eq-CLASS.true) in
    let own_tag : c.args.own / 16777216 ≡ 7 = grind (arith, nat_tests, c.of-own_parts.ensures.tag, c.if-own_parts-eq-CLASS.true) in
    let answer =
    subst (λ (cs : List ClassFact). (x y : List ℕ) → place_in cs x ≡ Some c.of-own_parts.result.rest → place_in cs y ≡ Some c.of-parts.result.rest → SubclassAnswer cs x y (yes_if c.is_below.result))
    (sym same) c.is_below.ensures in
    below_unguarded s r name c.args.class c.args.own a b tag own_tag
    (λ x y p q. subst (λ t. SubclassAnswer s.classes x y (yes_if t)) e (answer x y (p ∙ ap (λ n. Some n) (sym c.of-own_parts.ensures.rest)) (q ∙ ap (λ n. Some n) (sym c.of-parts.ensures.rest))))
