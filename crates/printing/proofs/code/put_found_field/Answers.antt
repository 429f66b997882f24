use Rattle.std.proofs.Common.{[], Option, sym, subst}
use Rattle.std.specs.Option.{option_map_or}
use Rattle.insn.specs.declared.instruction.Insn.{Insn}
use Rattle.insn.specs.Views.{view}
use Rattle.printing.specs.CodeLines.{instruction_field}
use Rattle.printing.specs.Json.{fields_then}
use Rattle.printing.specs.Writing.{Writes}
use Rattle.printing.proofs.code.put_found_field.Goals as goal

pub returns-in-Some : goal.returns-in-Some
returns-in-Some g c =
    let held = g.W.Write.contents in
    let rest = g.B.Print.text c.args.behind in
    subst (λ (o : Option Insn). Writes (held c.args.out.now) (held c.put.new.out) (fields_then (option_map_or (λ i. instruction_field (c.args.at, view i)) o []) rest) c.put.result) (sym c.in-Some.is) c.put.ensures
