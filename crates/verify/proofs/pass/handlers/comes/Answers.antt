use Rattle.std.proofs.Common.{◌∙◌, sym, ap}
use Rattle.hierarchy.specs.Answer.{outcome_of}
use Rattle.frames.specs.Slots.{to_reference}
use Rattle.verify.proofs.numbered.Following.{comes_by}
use Rattle.verify.proofs.pass.handlers.comes.Goals as goal

pub answer_caught-requires-clause-frame : goal.answer_caught-requires-clause-frame
answer_caught-requires-clause-frame g c = c.requires.1.frame.within

pub answer_caught-requires-clause-given : goal.answer_caught-requires-clause-given
answer_caught-requires-clause-given g c = (to_reference c.requires.0.caught, c.requires.1.caught)

pub returns-in-Yes-clause-taken : goal.returns-in-Yes-clause-taken
returns-in-Yes-clause-taken g c = λ t e is.
    comes_by c.args.frames.now e c.args.handler.now is (sym c.answer_caught.ensures.told ∙ ap outcome_of c.in-Yes.is)
