use Rattle.std.proofs.Common.{map, ap, ◌∙◌, subst}
use Rattle.classfile.specs.CodeMethods.{judged}
use Rattle.classfile.specs.Views.{class_view}
use Rattle.verify.specs.Files.{read_of}
use Rattle.verify.specs.private.AmongSteps.{ExplainsFormed}
use Rattle.verify.proofs.Formed.{decoded_formed, refused_by, among_formed}
use Rattle.verify.proofs.known_classes.explain_if.Goals as goal

pub returns-in-Err : goal.returns-in-Err
returns-in-Err g c = c.refused.ensures c.args.framed c.args.profile (read_of c.args.class) (map read_of c.args.known.now) c.in-Err.ensures

pub returns-in-Ok-formed : goal.returns-in-Ok-formed
returns-in-Ok-formed g c =
    let profile = c.args.profile in
    let read = read_of c.args.class in
    let known = map read_of c.args.known.now in
    let class = c.in-Ok.class in
    among_formed c.args.framed profile read (class_view class) known c.explain_formed.result
    (decoded_formed read (class_view class) c.in-Ok.ensures c.in-Ok-formed.ensures.1)
    (subst (λ k. ExplainsFormed c.args.framed k known c.explain_formed.result) (c.under.ensures.judged ∙ ap (λ k. judged profile (class_view k)) c.in-Ok-formed.ensures.0) c.explain_formed.ensures)

pub returns : goal.returns
returns g c =
    c.refused-in-Err-formed.ensures c.args.framed c.args.profile (read_of c.args.class) (map read_of c.args.known.now)
    (refused_by (read_of c.args.class) c.in-Ok.class c.in-Err-formed.fault c.in-Ok.ensures c.in-Err-formed.ensures)
