use Rattle.std.proofs.Common.{sym, subst}
use Rattle.frames.specs.Differences.{mismatch_of}
use Rattle.printing.specs.Differences.{types_differ}
use Rattle.printing.specs.Writing.{Writes}
use Rattle.printing.proofs.differences.TypesDifferPrint.put.Goals as goal

pub returns-in-Missing : goal.returns-in-Missing
returns-in-Missing g c =
    subst (λ s. Writes (g.W.Write.contents c.args.out.now) (g.W.Write.contents c.put-in-Missing.new.out) (types_differ s (mismatch_of c.args.self.now.mismatch)) c.put-in-Missing.result)
    (sym c.in-Missing.is) c.put-in-Missing.ensures
