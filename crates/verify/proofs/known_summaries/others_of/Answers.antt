use Rattle.std.proofs.Common.{◌≡◌, ◌∙◌, ◌∷◌, [], Some, true, false, not, filter, take, option_map, slice_get, ap, sym, subst}
use Rattle.std.specs.Str.{bytes_eq}
use Rattle.std.proofs.lemmas.Option.{slice_get-map, slice_get-get_or}
use Rattle.hierarchy.specs.Summary.{fact_of, facts_of}
use Rattle.verify.specs.Each.{with_class}
use Rattle.verify.specs.private.EachSteps.{ArePlaced}
use Rattle.verify.proofs.Others.{next_other, left_out, not_true, not_false}
use Rattle.verify.proofs.known_summaries.others_of.Goals.{then-ne+in_ok-copy_of+in_ok-add, else-ne}
use Rattle.verify.proofs.known_summaries.others_of.Goals as goal

pub loop-class-preserved : goal.loop-class-preserved
loop-class-preserved c =
    let classes = c.args.classes.now in
    let all = facts_of classes in
    let (places, placed) = c.requires in
    let n = c.loop-class.class-index in
    let name = c.args.name.now in
    let class = c.class-item.result in
    let front = filter (λ d. not (bytes_eq name d.name)) (take n all) in
    let here : slice_get all n ≡ Some (fact_of class) =
    slice_get-map fact_of classes n ∙ ap (option_map fact_of) (slice_get-get_or classes n class c.loop-class-test.true ∙ ap (λ x. Some x) (sym c.class-item.is)) in
    elim c.if-ne.branch [
      | then-ne+in_ok-copy_of+in_ok-add w ↦ (
        subst (λ g. ArePlaced (facts_of g.classes.items) g.places) (sym w.others-is) w.in_ok-add.ensures.placed,
        ap (λ g. facts_of g.classes.items) w.others-is ∙ w.in_ok-add.ensures.added ∙ ap (with_class (facts_of c.loop-class.others.classes.items)) w.in_ok-copy_of.ensures
            ∙ ap (λ fs. with_class fs (fact_of class)) c.loop-class.invariant.1
            ∙ next_other all places placed n (fact_of class) here name (not_true (bytes_eq name class.name.now) (sym c.ne.ensures ∙ w.if-ne.true)),
      )
      | else-ne w ↦ (
        subst (λ g. ArePlaced (facts_of g.classes.items) g.places) (sym w.others-is) c.loop-class.invariant.0,
        ap (λ g. facts_of g.classes.items) w.others-is ∙ c.loop-class.invariant.1
            ∙ left_out all places placed n (fact_of class) here name (not_false (bytes_eq name class.name.now) (sym c.ne.ensures ∙ w.if-ne.false)),
      )
    ]
