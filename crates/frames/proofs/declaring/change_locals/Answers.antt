use Rattle.std.proofs.Common.{arith}
use Rattle.frames.proofs.Filling.{taken_off}
use Rattle.frames.proofs.declaring.change_locals.Goals as goal

pub returns-in-Chop-clause-changed : goal.returns-in-Chop-clause-changed
returns-in-Chop-clause-changed c =
    rw c.in-Chop.is (taken_off c.args.locals.now.items c.truncate.new.self.items c.len.result c.in-Chop.count c.saturating_sub.result (omega (arith, c.len.ensures, c.args.locals.now.ok.0)) (omega (arith, c.saturating_sub.ensures, c.from.ensures)) c.truncate.ensures.items)
