use Rattle.std.proofs.Common.{◌++◌, ◌∷◌, [], refl}
use Rattle.hierarchy.specs.Summary.{fact_of}
use Rattle.answers.specs.Files.{input_view}
use Rattle.serving.proofs.Steps.{one_more}
use Rattle.serving.proofs.serving.one_known.Goals as goal

pub returns-in-Ok : goal.returns-in-Ok
returns-in-Ok c = λ ks knows.
    let file = input_view c.args.read.now in
    let (class, formed, free, fact) = c.in_ok-class.ensures ks knows.1 in (
      ks ++ record { file = file; class = class } ∷ [],
      (class, formed, free, refl),
      one_more c.args.profile ks c.args.known c.in-Ok.known file class (fact_of c.in_ok-class.class) knows formed free fact c.in-Ok.ensures,
    )
