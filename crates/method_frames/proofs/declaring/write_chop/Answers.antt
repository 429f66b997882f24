use Rattle.std.proofs.Common.{arith}
use Rattle.std.proofs.lemmas.Result.{on_ok_weaker}
use Rattle.method_frames.proofs.MapWriting.{chopped_so}
use Rattle.method_frames.proofs.declaring.write_chop.Goals as goal

pub returns-in-Chop-clause-locals : goal.returns-in-Chop-clause-locals
returns-in-Chop-clause-locals g c =
    rw c.in-Chop.is (on_ok_weaker c.chop.result (chopped_so c.args.frames.now.types c.args.locals.now c.chop.new.locals c.in-Chop.count c.saturating_sub-left.result (omega (arith, c.saturating_sub-left.ensures, c.count.ensures, c.from.ensures))) c.chop.ensures.locals)
