use Rattle.std.proofs.Common.{◌≡◌, ◌∙◌, ap, sym, subst}
use Rattle.answers.specs.Answers.{Answered}
use Rattle.answers.specs.Files.{file_view, refusal_status}
use Rattle.answers.specs.Verdicts.{known_object, known_refusal, IsTold, IsExplained}
use Rattle.answers.specs.declared.command.Form.{Form}
use Rattle.answers.specs.declared.manner.Manner.{Manner}
use Rattle.answers.specs.declared.manner.Manner.TheVariants.{Explained}
use Rattle.answers.proofs.verifying.refuse_known.Goals as goal

pub returns-in-Plain : goal.returns-in-Plain
returns-in-Plain g c =
    let held = g.W.Write.contents in
    let fault = c.args.fault in
    subst (λ (m : Manner). Answered (λ t s. IsTold m (file_view c.args.file) fault (λ form. known_refusal form c.args.number c.args.fault) (known_object c.args.number c.args.fault) t × (s ≡ refusal_status fault)) (held c.args.out.now) (held c.explain_file.new.out) c.explain_file.result)
    (sym (c.in-Explained.is ∙ ap Explained c.in-Plain.is))
    (subst (λ (form : Form). Answered (λ t s. IsExplained (file_view c.args.file) fault (known_refusal form c.args.number fault) t × (s ≡ refusal_status fault)) (held c.args.out.now) (held c.explain_file.new.out) c.explain_file.result) c.in-Plain.is c.explain_file.ensures)

pub returns-in-Json : goal.returns-in-Json
returns-in-Json g c =
    let held = g.W.Write.contents in
    let fault = c.args.fault in
    subst (λ (m : Manner). Answered (λ t s. IsTold m (file_view c.args.file) fault (λ form. known_refusal form c.args.number c.args.fault) (known_object c.args.number c.args.fault) t × (s ≡ refusal_status fault)) (held c.args.out.now) (held c.explain_object.new.out) c.explain_object.result)
    (sym (c.in-Explained.is ∙ ap Explained c.in-Json.is)) c.explain_object.ensures
