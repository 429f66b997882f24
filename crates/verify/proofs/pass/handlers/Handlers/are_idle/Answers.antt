use Rattle.std.proofs.Common.{◌∙◌, sym}
use Rattle.numbered_rules.specs.RunningFrame.{held}
use Rattle.verify.proofs.numbered.Settling.{none_covered}
use Rattle.verify.proofs.pass.handlers.Handlers.are_idle.Goals as goal

pub returns-then-not-covers : goal.returns-then-not-covers
returns-then-not-covers g c = λ t es k ahead.
    none_covered c.args.frames.now es c.args.at (held c.args.frames.now) (sym (c.covers.ensures c.args.frames.now es k ahead) ∙ c.if-not-covers.true)
