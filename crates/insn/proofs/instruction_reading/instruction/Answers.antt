use Rattle.std.proofs.Common.{rules, ◌≡◌, Some, Ok, sym, subst, ◌∙◌}
use Rattle.layout.specs.Format.{number}
use Rattle.insn.specs.private.PartReading.{Decodes, or_cut}
use Rattle.insn.specs.Instructions.{instruction_at, behind_opcode}
use Rattle.insn.specs.Opcodes.{opcode_of}
use Rattle.insn.specs.Views.{view}
use Rattle.insn.proofs.Steps.{goes_on, part_read}
use Rattle.insn.proofs.instruction_reading.instruction.Goals as goal

pub returns-in-Some : goal.returns-in-Some
unfolding instruction_at
returns-in-Some c =
    let at = c.args.at in
    let mid = c.u1.new.self in
    let new = c.behind_opcode.new.cursor in
    let opcode : Some c.in-Some.opcode ≡ opcode_of c.in_ok-number.number = sym c.in-Some.is ∙ c.from_number.ensures in
    let taken : Ok c.in_ok-number.number ≡ or_cut at c.u1.result = search rules in
    goes_on at (number 1) (λ n. behind_opcode at (opcode_of n)) view c.args.cursor.now mid new c.in_ok-number.number c.behind_opcode.result
    (part_read at (number 1) (λ n. n) c.args.cursor.now mid c.u1.result c.in_ok-number.number c.u1.ensures taken)
    (subst (λ o. Decodes at (behind_opcode at o) view mid new c.behind_opcode.result) opcode c.behind_opcode.ensures)
