use Rattle.std.proofs.Common.{◌≡◌, ◌+◌, ◌∙◌, ◌++◌, ℕ, Bor, List, Option, Some, sym, ap, map, drop}
use Rattle.std.specs.Prelude.{slice_get, option_map, option_to_list}
use Rattle.classfile.specs.Bootstraps.{body_of, bodies_of, only}
use Rattle.classfile.specs.Values.{ClassAttribute}
use Rattle.classfile.specs.Views.{class_attribute_view}
use Rattle.classfile.proofs.BootstrapLaws.{bodies_from, met_twice, met_none, gives_none}
use Rattle.classfile.proofs.Places.{viewed_at}
use Rattle.classfile.proofs.bootstraps.only_body.Goals as goal
use Rattle.classfile.proofs.bootstraps.only_body.Goals.{in-Some+else-is_some, in_default}

pub returns-then-is_some : goal.returns-then-is_some
returns-then-is_some c =
    let pool = c.args.pool.now in
    let xs = map class_attribute_view c.args.attributes.now in
    let at = c.loop-attribute.attribute-index in
    let a : ClassAttribute = class_attribute_view c.attribute-item.result in
    let here : slice_get xs at ≡ Some a =
    viewed_at class_attribute_view c.args.attributes.now at c.attribute-item.result c.loop-attribute-test.true c.attribute-item.is in
    let found = option_to_list (option_map (λ (b : Bor (List ℕ)). b.now) c.loop-attribute.found) in
    let rest = bodies_of pool (drop (at + 1) xs) in
    let body : body_of pool a ≡ Some c.in-Some.body.now = sym c.body_of.ensures ∙ ap (option_map (λ (b : Bor (List ℕ)). b.now)) c.in-Some.is in
    sym (ap only (c.loop-attribute.invariant ∙ ap (λ (l : List (List ℕ)). found ++ l) (bodies_from pool xs at a here ∙ ap (λ (o : Option (List ℕ)). option_to_list o ++ rest) body))
    ∙ met_twice (λ (b : Bor (List ℕ)). b.now) c.loop-attribute.found c.in-Some.body.now rest (sym c.is_some.ensures ∙ c.if-is_some.true))

pub loop-attribute-preserved : goal.loop-attribute-preserved
loop-attribute-preserved c =
    let pool = c.args.pool.now in
    let xs = map class_attribute_view c.args.attributes.now in
    let at = c.loop-attribute.attribute-index in
    let a : ClassAttribute = class_attribute_view c.attribute-item.result in
    let here : slice_get xs at ≡ Some a =
    viewed_at class_attribute_view c.args.attributes.now at c.attribute-item.result c.loop-attribute-test.true c.attribute-item.is in
    let rest = bodies_of pool (drop (at + 1) xs) in
    let found = option_to_list (option_map (λ (b : Bor (List ℕ)). b.now) c.loop-attribute.found) in
    let step = c.loop-attribute.invariant ∙ ap (λ (l : List (List ℕ)). found ++ l) (bodies_from pool xs at a here) in
    elim c.match-body_of.branch [
      | in-Some+else-is_some w ↦
          step
          ∙ ap (λ (l : List (List ℕ)). l ++ (option_to_list (body_of pool a) ++ rest)) (met_none (λ (b : Bor (List ℕ)). b.now) c.loop-attribute.found (sym w.is_some.ensures ∙ w.if-is_some.false))
          ∙ ap (λ (o : Option (List ℕ)). option_to_list o ++ rest) (sym c.body_of.ensures ∙ ap (option_map (λ (b : Bor (List ℕ)). b.now)) w.in-Some.is)
          ∙ ap (λ (o : Option (Bor (List ℕ))). option_to_list (option_map (λ (b : Bor (List ℕ)). b.now) o) ++ rest) (sym w.found-is)
      | in_default w ↦
          step
          ∙ ap (λ (o : Option (List ℕ)). found ++ (option_to_list o ++ rest)) (sym c.body_of.ensures)
          ∙ ap (λ (l : List (List ℕ)). found ++ (l ++ rest)) (gives_none (λ (b : Bor (List ℕ)). b.now) c.body_of.result w.in_default.not-Some)
          ∙ ap (λ (o : Option (Bor (List ℕ))). option_to_list (option_map (λ (b : Bor (List ℕ)). b.now) o) ++ rest) (sym w.found-is)
    ]
