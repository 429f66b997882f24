use Rattle.std.proofs.Common.{◌∙◌, ap, refl, inl, inr, subst}
use Rattle.std.proofs.lemmas.Result.{on_ok_weaker}
use Rattle.classfile.specs.Views.{class_view}
use Rattle.hierarchy.specs.Summary.{facts_of}
use Rattle.verify.specs.Each.{with_class}
use Rattle.verify.specs.private.OpeningSteps.{IsOpened}
use Rattle.verify.proofs.Openings.{on_ok_all}
use Rattle.verify.proofs.gathering.Gathered.add_opened_file.Goals as goal

pub returns-in_ok-summary_of-in-Ok-clause-added : goal.returns-in_ok-summary_of-in-Ok-clause-added
returns-in_ok-summary_of-in-Ok-clause-added c =
    let old = facts_of c.args.self.now.classes.items in
    on_ok_weaker c.add.result (λ e read is. inr (class_view c.in-Ok.formed.class.now, subst (IsOpened read) c.in-Ok.is is, e ∙ ap (with_class old) c.in_ok-summary_of-in-Ok.ensures)) c.add.ensures.added

pub returns-in-Err-clause-added : goal.returns-in-Err-clause-added
returns-in-Err-clause-added c =
    on_ok_all _ c.passed_over.result (λ read is. on_ok_weaker c.passed_over.result (λ p. inl (c.in-Err.fault, p, refl)) (c.passed_over.ensures read (subst (IsOpened read) c.in-Err.is is)))
