use Rattle.std.proofs.Common.{◌≡◌, ◌∙◌, refl, sym, ap, subst}
use Rattle.method_frames.specs.NumberedFrames.{NumberedFrames}
use Rattle.numbered_rules.specs.RunningFrame.{held}
use Rattle.verify.specs.private.pass.Following.{AreStanding, Comes}
use Rattle.verify.proofs.numbered.Catching.{known, catches_by, answer_of}
use Rattle.verify.proofs.pass.handlers.Handlers.takes.Goals as goal

pub returns-then-is_known-clause-taken : goal.returns-then-is_known-clause-taken
returns-then-is_known-clause-taken g c = λ t.
    let x = c.args.frames.now in
    let h = c.args.self.now in
    let k = c.requires.follows.2 in
    known x h c.args.handler.now k.caught (subst (λ ls. AreStanding x ls h) c.requires.kept k.standing) c.requires.flag (c.if-is_known.ensures refl)

pub returns-then-is_known-clause-caught : goal.returns-then-is_known-clause-caught
returns-then-is_known-clause-caught g c = c.requires.follows.2.caught

pub comes-requires : goal.comes-requires
comes-requires g c = c.requires.entry

pub returns-clause-caught : goal.returns-clause-caught
returns-clause-caught g c =
    let x = c.args.frames.now in
    let one = c.args.handler.now in
    let comes = c.comes.ensures.taken c.if-not-comes.false in
    c.in_ok-learn.ensures.caught x (catches_by x one (answer_of x one c.requires.entry.0 c.requires.entry.1 comes)) c.requires.follows.2.caught

pub returns-clause-taken : goal.returns-clause-taken
returns-clause-taken g c = λ t. c.comes.ensures.taken c.if-not-comes.false
