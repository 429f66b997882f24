use Rattle.std.proofs.Common.{sym, subst}
use Rattle.answers.specs.Answers.{Answered}
use Rattle.answers.specs.Files.{judged_file, input_view}
use Rattle.answers.specs.Verdicts.{BesideSays}
use Rattle.answers.specs.declared.manner.Manner.TheVariants.{Told, Explained}
use Rattle.answers.proofs.beside.answer_beside.Goals as goal

pub returns-in-Told : goal.returns-in-Told
returns-in-Told g c = λ beside all.
    let held = g.W.Write.contents in
    subst (λ m. Answered (BesideSays m c.args.profile (judged_file c.args.profile (input_view c.args.read.now)) beside) (held c.args.out.now) (held c.tell_verdicts.new.out) c.tell_verdicts.result) (sym c.in-Told.is)
    (subst (λ f. Answered (BesideSays (Told c.in-Told.form) c.args.profile f beside) (held c.args.out.now) (held c.tell_verdicts.new.out) c.tell_verdicts.result) c.judged-file.ensures (c.tell_verdicts.ensures beside all))

pub returns-in-Explained : goal.returns-in-Explained
returns-in-Explained g c = λ beside all.
    let held = g.W.Write.contents in
    subst (λ m. Answered (BesideSays m c.args.profile (judged_file c.args.profile (input_view c.args.read.now)) beside) (held c.args.out.now) (held c.explain_verdicts.new.out) c.explain_verdicts.result) (sym c.in-Explained.is)
    (subst (λ f. Answered (BesideSays (Explained c.in-Explained.form) c.args.profile f beside) (held c.args.out.now) (held c.explain_verdicts.new.out) c.explain_verdicts.result) c.judged-file.ensures (c.explain_verdicts.ensures beside all))
