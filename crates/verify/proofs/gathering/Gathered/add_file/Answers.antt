use Rattle.std.proofs.Common.{◌∙◌, ap, refl, inl, inr}
use Rattle.std.proofs.lemmas.Result.{on_ok_weaker}
use Rattle.hierarchy.specs.Summary.{facts_of}
use Rattle.verify.specs.Files.{read_of}
use Rattle.verify.specs.Each.{with_class}
use Rattle.verify.proofs.gathering.Gathered.add_file.Goals as goal

pub returns-in-Ok-clause-added : goal.returns-in-Ok-clause-added
returns-in-Ok-clause-added c =
    let old = facts_of c.args.self.now.classes.items in
    let (class, formed, fact) = c.in-Ok.ensures in
    on_ok_weaker c.add.result (λ e. inr (class, formed, e ∙ ap (with_class old) fact)) c.add.ensures.added

pub returns-in-Err-clause-added : goal.returns-in-Err-clause-added
returns-in-Err-clause-added c =
    on_ok_weaker c.passed_over.result (λ p. inl (c.in-Err.fault, p, refl)) (c.passed_over.ensures (read_of c.args.file) c.in-Err.ensures)
