use Rattle.std.proofs.Common.{◌≡◌, ◌∙◌, Some, Result, Ok, refl, sym, subst}
use Rattle.layout.specs.Place.{Place}
use Rattle.layout.specs.declared.fault.ReadFault.{ReadFault}
use Rattle.layout.specs.Faults.{Reads}
use Rattle.layout.specs.Format.{number, reads}
use Rattle.insn.specs.Faults.{judged}
use Rattle.insn.specs.Instructions.{Instruction, nothing, operands_at, behind_opcode, instruction_at}
use Rattle.insn.specs.Opcodes.{form, opcode_of}
use Rattle.insn.proofs.Steps.{goes_on, opcode_ok}
use Rattle.insn.proofs.CodeLaws.{read_spells}
use Rattle.insn.proofs.instruction_reading.take_alone.Goals as goal

pub returns : goal.returns
unfolding operands_at instruction_at
returns c =
    let old = c.args.cursor.now in
    let at = old.at in
    let mid = c.u1.new.self in
    let n = c.in-Ok.number in
    let o = c.in_ok-opcode.opcode in
    let i : Instruction = record { opcode = o; operands = nothing } in
    let from_old = subst (λ (p : Place). Reads (number 1) (λ k. k) p mid c.u1.result) c.fork-step.ensures c.u1.ensures in
    let read = subst (λ (r : Result _ ReadFault). Reads (number 1) (λ k. k) old mid r) c.in-Ok.is from_old in
    let taken = subst (λ f. judged at (reads (operands_at at f) mid.at mid.rest) ≡ Ok (nothing, mid)) (sym c.in-Nothing.is ∙ c.form.ensures) refl in
    let alone = opcode_ok at o (operands_at at (form o)) mid nothing mid taken in
    let opcode : Some o ≡ opcode_of n = sym c.in_ok-opcode.was ∙ c.from_number.ensures in
    let whole = goes_on at (number 1) (λ k. behind_opcode at (opcode_of k)) (λ (x : Instruction). x) old mid mid n (Ok i) read
    (subst (λ x. judged at (reads (behind_opcode at x) mid.at mid.rest) ≡ Ok (i, mid)) opcode alone) in
    let (first, spells, took) = read_spells at (instruction_at at) old mid i (reads (instruction_at at) at old.rest) refl whole in
    (sym c.form.ensures ∙ c.in-Nothing.is, first, spells, took)
