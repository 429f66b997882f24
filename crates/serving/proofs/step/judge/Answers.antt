use Rattle.std.proofs.Common.{◌≡◌, ◌∙◌, ◌++◌, List, sym, ap, subst}
use Rattle.classfile.specs.Values.{Class}
use Rattle.hierarchy.specs.ClassSummary.{summary_of}
use Rattle.answers.specs.Files.{File, input_view, judged_file}
use Rattle.answers.specs.Verdicts.{BesideSays}
use Rattle.serving.specs.KnownClasses.{files, standing_beside}
use Rattle.serving.proofs.Steps.{beside}
use Rattle.serving.proofs.step.judge.Goals as goal

pub returns-in-Ok : goal.returns-in-Ok
returns-in-Ok g c = λ ks knows.
    let profile = c.args.profile in
    let stand : Class → List File = λ k. files profile (standing_beside (summary_of k) ks) in
    let (text, says, written) = c.in-Ok.ensures stand (beside profile ks c.args.known.now knows) in
    let same : c.answer_beside.new.out.items ≡ text = written ∙ ap (λ xs. xs ++ text) c.new-text.ensures.items in
    subst (λ t. BesideSays c.args.manner profile (judged_file profile (input_view c.args.read.now)) stand t c.in-Ok.status) (sym same) says
