use Rattle.std.proofs.Common.{[], Option, sym, subst}
use Rattle.std.specs.Option.{option_map_or}
use Rattle.insn.specs.declared.instruction.Insn.{Insn}
use Rattle.insn.specs.Views.{view}
use Rattle.printing.specs.Constants.{named_line}
use Rattle.printing.specs.Writing.{Writes}
use Rattle.printing.proofs.code.put_named.Goals as goal

pub returns-in-Some : goal.returns-in-Some
returns-in-Some g c =
    let held = g.W.Write.contents in
    subst (λ (o : Option Insn). Writes (held c.args.out.now) (held c.put_constant.new.out) (option_map_or (λ i. named_line c.args.pool.now (view i)) o []) c.put_constant.result) (sym c.in-Some.is) c.put_constant.ensures
