use Rattle.std.proofs.Common.{◌≡◌, ◌++◌, ◌∷◌, [], List, inr, refl}
use Rattle.hierarchy.specs.Class.{ClassFact}
use Rattle.hierarchy.specs.ClassSummary.{summary_of}
use Rattle.hierarchy.specs.Summary.{fact_of}
use Rattle.verify.specs.Each.{with_class}
use Rattle.answers.specs.Files.{input_view}
use Rattle.serving.specs.KnownClasses.{KnownClass, others}
use Rattle.serving.specs.Steps.{Defines}
use Rattle.serving.specs.private.Stepping.{Knows}
use Rattle.serving.proofs.Steps.{if_ok, one_instead}
use Rattle.serving.proofs.step.defined.Goals as goal

pub returns-in-Ok : goal.returns-in-Ok
returns-in-Ok c = λ ks knows.
    let profile = c.args.profile in
    let file = input_view c.args.read.now in
    let fact = fact_of c.in-Ok.class in
    let left = c.in_ok-others-in-Ok.others in
    let (class, formed, is) = c.in-Ok.ensures in
    if_ok c.with_kept.result (λ k. k ≡ with_class left fact) (λ k. (x : List KnownClass) × Defines profile ks file x × Knows profile x k) c.with_kept.ensures (λ k put. (
      others (summary_of class).name ks ++ record { file = file; class = class } ∷ [],
      inr (class, formed, refl),
      one_instead profile ks c.args.known left k file class fact knows formed is c.in_ok-others-in-Ok.ensures put,
    ))
