use Rattle.std.proofs.Common.{subst}
use Rattle.hierarchy.specs.Answer.{Outcome}
use Rattle.frames.specs.Slots.{to_reference}
use Rattle.rules.specs.Outcomes.{Judges}
use Rattle.verify.specs.Verdict.{answer_conditions}
use Rattle.verify.proofs.pass.handlers.check_handler.Goals as goal

pub answer_caught-answer-requires-clause-frame : goal.answer_caught-answer-requires-clause-frame
answer_caught-answer-requires-clause-frame g c = c.requires.1.frame.within

pub answer_caught-answer-requires-clause-given : goal.answer_caught-answer-requires-clause-given
answer_caught-answer-requires-clause-given g c = (to_reference c.requires.0.caught, c.requires.1.caught)

pub returns-clause-judged : goal.returns-clause-judged
returns-clause-judged g c = subst (λ (o : Outcome). Judges (answer_conditions 73 o) c.check_answer.result) c.answer_caught-answer.ensures.told c.check_answer.ensures
