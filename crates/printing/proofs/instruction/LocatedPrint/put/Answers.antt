use Rattle.std.proofs.Common.{ap, subst}
use Rattle.insn.specs.Views.{view, operands_view}
use Rattle.printing.specs.Writing.{Writes}
use Rattle.printing.proofs.OffsetTexts.{alone_line}
use Rattle.printing.proofs.instruction.LocatedPrint.put.Goals as goal

pub returns-in-Nothing : goal.returns-in-Nothing
returns-in-Nothing g c =
    let held = g.W.Write.contents in
    let self = c.args.self.now in
    subst (λ t. Writes (held c.args.out.now) (held c.put_alone.new.out) t c.put_alone.result) (alone_line self.at (view self.insn) (ap operands_view c.in-Nothing.is)) c.put_alone.ensures
