use Rattle.std.proofs.Common.{◌∙◌, ◌++◌, ◌∷◌, [], inr, refl, ap}
use Rattle.hierarchy.specs.Class.{ClassFact}
use Rattle.hierarchy.specs.Summary.{fact_of}
use Rattle.answers.specs.Files.{input_view}
use Rattle.serving.specs.Messages.{ReplyFact}
use Rattle.serving.specs.Lines.{known_line}
use Rattle.serving.proofs.Steps.{one_more}
use Rattle.serving.proofs.step.introduce.Goals as goal

pub returns-in-Ok : goal.returns-in-Ok
returns-in-Ok c = λ ks knows.
    let s = c.args.setting in
    let file = input_view c.args.read.now in
    let (class, formed, free, fact) = c.in-Ok.ensures ks knows.1 in
    let reply = λ (f : ClassFact). let r : ReplyFact = record { status = 0; text = known_line s.form f.name f.superclass } in r in (
      ks ++ record { file = file; class = class } ∷ [],
      inr (class, formed, inr (free, c.in_ok-reply-in-Ok.ensures ∙ ap reply fact, refl)),
      one_more s.profile ks c.args.known c.in_ok-known-in-Ok.known file class (fact_of c.in-Ok.class) knows formed free fact c.in_ok-known-in-Ok.ensures,
    )
