use Rattle.std.proofs.Common.{◌≡◌, ◌∙◌, ◌∷◌, map, ap}
use Rattle.classfile.specs.CodeMethods.{judged_class}
use Rattle.hierarchy.specs.ClassSummary.{summary_of}
use Rattle.hierarchy.specs.Summary.{facts_of}
use Rattle.verify.specs.Beside.{standing_beside}
use Rattle.verify.proofs.Formed.{explains_formed}
use Rattle.verify.proofs.known_summaries.explain_formed.Goals as goal

pub returns-clause-answer : goal.returns-clause-answer
returns-clause-answer g c = λ reads (cs, all, same).
    let class = judged_class c.args.formed.now in
    let facts : facts_of c.deref.result.now ≡ map summary_of (class.file ∷ cs) =
    ap facts_of c.deref.ensures.value ∙ c.in_ok-summaries.ensures ∙ ap (λ f. f ∷ standing_beside f c.args.known.now) c.in_ok-class.ensures
    ∙ ap (λ fs. summary_of class.file ∷ fs) same in
    explains_formed c.args.framed class reads cs (facts_of c.deref.result.now) c.explain_in.result all facts c.explain_in.ensures
