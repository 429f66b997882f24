use Rattle.std.proofs.Common.{◌≡◌, ◌∙◌, ◌++◌, ◌∷◌, [], Some, option_map, slice_get, ap, sym}
use Rattle.std.proofs.lemmas.List.{map-append}
use Rattle.std.proofs.lemmas.Option.{slice_get-map, slice_get-get_or}
use Rattle.classfile.proofs.Places.{take_one_more}
use Rattle.hierarchy.specs.Summary.{fact_of, facts_of}
use Rattle.verify.proofs.known_summaries.behind.Goals as goal

pub loop-other-preserved : goal.loop-other-preserved
loop-other-preserved c =
    let classes = c.args.classes.now in
    let all = facts_of classes in
    let n = c.loop-other.other-index in
    let other = c.other-item.result in
    let old = c.loop-other.summaries.items in
    let here : slice_get all n ≡ Some (fact_of other) =
    slice_get-map fact_of classes n ∙ ap (option_map fact_of) (slice_get-get_or classes n other c.loop-other-test.true ∙ ap (λ x. Some x) (sym c.other-item.is)) in
    ap facts_of c.in_ok-push-2.ensures.items ∙ map-append fact_of old (c.in_ok-copy_of.field-0 ∷ []) ∙ ap (λ f. facts_of old ++ f ∷ []) c.in_ok-copy_of.ensures
    ∙ ap (λ fs. fs ++ fact_of other ∷ []) c.loop-other.invariant ∙ ap (λ fs. fact_of c.args.class ∷ fs) (sym (take_one_more all n (fact_of other) here))
