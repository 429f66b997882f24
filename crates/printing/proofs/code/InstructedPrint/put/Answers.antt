use Rattle.std.proofs.Common.{◌∙◌, sym, subst}
use Rattle.insn.specs.Decoding.{code_result}
use Rattle.printing.specs.CodeLines.{result_lines}
use Rattle.printing.specs.Writing.{Writes}
use Rattle.printing.proofs.Steps.{is_list, is_fault}
use Rattle.printing.proofs.code.InstructedPrint.put.Goals as goal

pub returns-in-Some : goal.returns-in-Some
returns-in-Some g c =
    let held = g.W.Write.contents in
    let fault = is_fault (code_result c.args.self.now.0.now) c.in-Some.fault (sym c.code_fault.ensures ∙ c.in-Some.is) in
    subst (λ r. Writes (held c.args.out.now) (held c.put.new.out) (result_lines r) c.put.result) (sym fault) c.put.ensures

pub returns-in-None : goal.returns-in-None
returns-in-None g c =
    let held = g.W.Write.contents in
    let (xs, is) = is_list (code_result c.args.self.now.0.now) (sym c.code_fault.ensures ∙ c.in-None.is) in
    subst (λ r. Writes (held c.args.out.now) (held c.put_instructions.new.out) (result_lines r) c.put_instructions.result) (sym is) (c.put_instructions.ensures xs is)
