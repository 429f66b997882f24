-- None so far is refused, so it rests with the others.
use Rattle.std.proofs.Common.{◌≡◌, drop}
use Rattle.std.specs.List.{list_any}
use Rattle.answers.specs.Verdicts.{is_refusal}
use Rattle.answers.proofs.verdicts.ReportText.status.Given as goal

abbrev pub invariant-loop-method : goal.invariant-loop-method
invariant-loop-method l = list_any (λ r. is_refusal r.verdict) l.self.methods.now ≡ list_any (λ r. is_refusal r.verdict) (drop l.method-index l.self.methods.now)
