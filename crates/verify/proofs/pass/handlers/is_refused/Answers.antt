use Rattle.std.proofs.Common.{◌∙◌, sym, ap}
use Rattle.hierarchy.specs.Answer.{Outcome, outcome_of}
use Rattle.frames.specs.Conditions.{is_no}
use Rattle.frames.specs.Slots.{to_reference}
use Rattle.verify.proofs.numbered.Following.{not_no}
use Rattle.verify.proofs.pass.handlers.is_refused.Goals as goal

pub answer_caught-requires-clause-frame : goal.answer_caught-requires-clause-frame
answer_caught-requires-clause-frame g c = c.requires.1.frame.within

pub answer_caught-requires-clause-given : goal.answer_caught-requires-clause-given
answer_caught-requires-clause-given g c = (to_reference c.requires.0.caught, c.requires.1.caught)

pub returns-in-No-clause-refused : goal.returns-in-No-clause-refused
returns-in-No-clause-refused g c = ap (λ (o : Outcome). is_no o) (sym (ap outcome_of c.in-No.is) ∙ c.answer_caught.ensures.told)

pub returns-in_default-clause-refused : goal.returns-in_default-clause-refused
returns-in_default-clause-refused g c = sym (not_no c.answer_caught.result c.in_default.not-No) ∙ ap (λ (o : Outcome). is_no o) c.answer_caught.ensures.told
