use Rattle.std.proofs.Common.{◌∙◌, ap}
use Rattle.classfile.specs.Views.{class_view}
use Rattle.hierarchy.specs.ClassSummary.{summary_of}
use Rattle.verify.specs.Files.{read_of}
use Rattle.verify.proofs.Formed.{decoded_formed}
use Rattle.verify.proofs.files.summary_in.Goals as goal

pub returns : goal.returns
returns c =
    let class = class_view c.in_ok-class.class in
    (class, decoded_formed (read_of c.args.read) class c.in_ok-class.ensures c.in_ok-formed.ensures.1, c.in_ok-summary_of.ensures ∙ ap (λ k. summary_of (class_view k)) c.in_ok-formed.ensures.0)
