use Rattle.std.proofs.Common.{rules, ◌≡◌, Some, Ok, sym, subst, ◌∙◌}
use Rattle.layout.specs.Format.{number}
use Rattle.insn.specs.private.PartReading.{Decodes, or_cut}
use Rattle.insn.specs.Instructions.{wide_at, widened, widened_opcode}
use Rattle.insn.specs.Opcodes.{opcode_of}
use Rattle.insn.specs.Views.{operands_view}
use Rattle.insn.proofs.Steps.{goes_on, part_read}
use Rattle.insn.proofs.instruction_reading.wide.Goals as goal

pub returns-in-Some : goal.returns-in-Some
unfolding wide_at
returns-in-Some c =
    let at = c.args.at in
    let mid = c.u1.new.self in
    let new = c.widened.new.cursor in
    let opcode : Some c.in-Some.opcode ≡ opcode_of c.in_ok-number.number = sym c.in-Some.is ∙ c.from_number.ensures in
    let taken : Ok c.in_ok-number.number ≡ or_cut at c.u1.result = search rules in
    let behind = subst (λ f. Decodes at (widened at c.in-Some.opcode f) operands_view mid new c.widened.result) c.form.ensures c.widened.ensures in
    goes_on at (number 1) (λ n. widened_opcode at (opcode_of n)) operands_view c.args.cursor.now mid new c.in_ok-number.number c.widened.result
    (part_read at (number 1) (λ n. n) c.args.cursor.now mid c.u1.result c.in_ok-number.number c.u1.ensures taken)
    (subst (λ o. Decodes at (widened_opcode at o) operands_view mid new c.widened.result) opcode behind)
