-- The greatest so far, and those of the others.
use Rattle.std.proofs.Common.{◌≡◌, drop}
use Rattle.answers.specs.Judgements.{greater, worst_status}
use Rattle.answers.proofs.judgements.JudgementsText.status.Given as goal

abbrev pub invariant-loop-judgement : goal.invariant-loop-judgement
invariant-loop-judgement l = worst_status l.self.judgements.now ≡ greater l.worst (worst_status (drop l.judgement-index l.self.judgements.now))
