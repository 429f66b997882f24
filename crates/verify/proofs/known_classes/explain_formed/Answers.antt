use Rattle.std.proofs.Common.{◌≡◌, ◌∙◌, ◌++◌, ◌∷◌, [], map, ap}
use Rattle.classfile.specs.CodeMethods.{judged_class}
use Rattle.classfile.specs.Views.{class_view}
use Rattle.hierarchy.specs.ClassSummary.{summary_of}
use Rattle.hierarchy.specs.Summary.{facts_of}
use Rattle.verify.specs.Files.{read_of}
use Rattle.verify.proofs.Formed.{explains_formed}
use Rattle.verify.proofs.known_classes.explain_formed.Goals as goal

pub explain_in-requires : goal.explain_in-requires
explain_in-requires g c =
    let class = class_view c.args.formed.now.class.now in
    let s = c.in_ok-summary_of.field-0 in
    let (cs, all, more) = c.in_ok-add_known.ensures in (
      map summary_of cs,
      ap facts_of c.deref.ensures.value ∙ more
          ∙ ap (λ fs. fs ++ map summary_of cs) (ap facts_of c.in_ok-push.ensures.items ∙ ap (λ xs. facts_of (xs ++ s ∷ [])) c.in_ok-summaries.ensures.items ∙ ap (λ f. f ∷ []) c.in_ok-summary_of.ensures),
    )

pub returns : goal.returns
returns g c =
    let class = class_view c.args.formed.now.class.now in
    let s = c.in_ok-summary_of.field-0 in
    let (cs, all, more) = c.in_ok-add_known.ensures in
    let facts : facts_of c.deref.result.now ≡ map summary_of (class ∷ cs) =
    ap facts_of c.deref.ensures.value ∙ more
    ∙ ap (λ fs. fs ++ map summary_of cs) (ap facts_of c.in_ok-push.ensures.items ∙ ap (λ xs. facts_of (xs ++ s ∷ [])) c.in_ok-summaries.ensures.items ∙ ap (λ f. f ∷ []) c.in_ok-summary_of.ensures) in
    explains_formed c.args.framed (judged_class c.args.formed.now) (map read_of c.args.known.now) cs (facts_of c.deref.result.now) c.explain_in.result all facts c.explain_in.ensures
