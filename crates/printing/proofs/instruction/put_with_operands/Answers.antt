use Rattle.std.proofs.Common.{subst, decimal}
use Rattle.insn.specs.Views.{view}
use Rattle.printing.specs.InstructionLines.{named_text}
use Rattle.printing.specs.Writing.{Writes}
use Rattle.printing.proofs.OffsetTexts.{line_parts}
use Rattle.printing.proofs.instruction.put_with_operands.Goals as goal

pub returns : goal.returns
returns g c =
    let held = g.W.Write.contents in
    let it = c.args.it in
    subst (λ t. Writes (held c.args.out.now) (held c.put.new.out) t c.put.result) (line_parts (decimal it.at) (named_text (it.at, view it.insn))) c.put.ensures
