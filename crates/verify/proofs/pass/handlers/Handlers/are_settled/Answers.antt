use Rattle.verify.proofs.numbered.Settling.{unchanged, none_against_all}
use Rattle.verify.proofs.pass.handlers.Handlers.are_settled.Goals as goal

pub returns-then-self : goal.returns-then-self
returns-then-self g c = λ t es at k ahead.
    let x = c.args.frames.now in
    let h = c.args.self.now in
    let same = c.is_unchanged.ensures t in
    none_against_all x es at h k ahead c.if-self.true (unchanged x es at h k same.own same.even same.locals)
