use Rattle.std.proofs.Common.{[], Option, sym, subst}
use Rattle.std.specs.Option.{option_map_or}
use Rattle.insn.specs.declared.instruction.Insn.{Insn}
use Rattle.insn.specs.Views.{view}
use Rattle.printing.specs.InstructionLines.{instruction_line}
use Rattle.printing.specs.Writing.{Writes}
use Rattle.printing.proofs.code.put_found.Goals as goal

pub returns-in-Some : goal.returns-in-Some
returns-in-Some g c =
    let held = g.W.Write.contents in
    subst (λ (o : Option Insn). Writes (held c.args.out.now) (held c.put.new.out) (option_map_or (λ i. instruction_line (c.args.at, view i)) o []) c.put.result) (sym c.in-Some.is) c.put.ensures
