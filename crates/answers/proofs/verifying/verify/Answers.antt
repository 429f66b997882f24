use Rattle.std.proofs.Common.{sym, subst}
use Rattle.answers.specs.Answers.{Answered}
use Rattle.answers.specs.Files.{file_view, files_view}
use Rattle.answers.specs.Verdicts.{VerifySays}
use Rattle.answers.proofs.verifying.verify.Goals as goal

pub returns-in-Told : goal.returns-in-Told
returns-in-Told g c =
    let held = g.W.Write.contents in
    subst (λ m. Answered (VerifySays m c.args.profile (file_view c.args.file) (files_view c.args.known)) (held c.args.out.now) (held c.tell_verdicts.new.out) c.tell_verdicts.result)
    (sym c.in-Told.is) c.tell_verdicts.ensures

pub returns-in-Explained : goal.returns-in-Explained
returns-in-Explained g c =
    let held = g.W.Write.contents in
    subst (λ m. Answered (VerifySays m c.args.profile (file_view c.args.file) (files_view c.args.known)) (held c.args.out.now) (held c.explain_verdicts.new.out) c.explain_verdicts.result)
    (sym c.in-Explained.is) c.explain_verdicts.ensures
