use Rattle.std.proofs.Common.{◌≡◌, ◌∙◌, Some, option_map, slice_get, ap, sym}
use Rattle.std.proofs.lemmas.Option.{slice_get-map, slice_get-get_or}
use Rattle.hierarchy.specs.Summary.{fact_of, facts_of}
use Rattle.verify.specs.Each.{with_class}
use Rattle.verify.proofs.Others.{next_behind}
use Rattle.verify.proofs.known_summaries.others_behind.Goals as goal

pub loop-other-preserved : goal.loop-other-preserved
loop-other-preserved c =
    let classes = c.args.classes.now in
    let all = facts_of classes in
    let (places, placed) = c.requires in
    let n = c.loop-other.other-index in
    let other = c.other-item.result in
    let here : slice_get all n ≡ Some (fact_of other) =
    slice_get-map fact_of classes n ∙ ap (option_map fact_of) (slice_get-get_or classes n other c.loop-other-test.true ∙ ap (λ x. Some x) (sym c.other-item.is)) in (
      c.in_ok-add-2.ensures.placed,
      c.in_ok-add-2.ensures.added ∙ ap (with_class (facts_of c.loop-other.gathered.classes.items)) c.in_ok-copy_of.ensures
          ∙ ap (λ fs. with_class fs (fact_of other)) c.loop-other.invariant.1
          ∙ next_behind all places placed n (fact_of other) here (fact_of c.args.class),
    )
