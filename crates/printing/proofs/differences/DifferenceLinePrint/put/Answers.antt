use Rattle.std.proofs.Common.{sym, subst}
use Rattle.frames.specs.declared.difference.Difference.{Difference}
use Rattle.frames.specs.Differences.{difference_of}
use Rattle.printing.specs.Writing.{Writes}
use Rattle.printing.specs.Differences.{difference_line}
use Rattle.printing.proofs.differences.DifferenceLinePrint.put.Goals as goal

pub returns-in-Sizes : goal.returns-in-Sizes
returns-in-Sizes g c =
    let held = g.W.Write.contents in
    subst (λ (d : Difference). Writes (held c.args.out.now) (held c.put-in-Sizes.new.out) (difference_line c.args.self.now.sought (difference_of d)) c.put-in-Sizes.result)
    (sym c.in-Sizes.is) c.put-in-Sizes.ensures
