use Rattle.std.proofs.Common.{◌≡◌, ◌∙◌, Ok, Err, refl, subst, sym}
use Rattle.std.proofs.lemmas.Result.{err_from_is_err_and}
use Rattle.layout.specs.Format.{reads}
use Rattle.insn.specs.Faults.{judged}
use Rattle.insn.specs.Instructions.{nothing, operands_at}
use Rattle.insn.specs.Opcodes.{form}
use Rattle.insn.specs.Views.{operands_view}
use Rattle.insn.proofs.Steps.{opcode_ok, opcode_err}
use Rattle.insn.proofs.instruction_reading.behind_opcode.Goals as goal

pub returns-in_err-operands : goal.returns-in_err-operands
returns-in_err-operands c =
    let at = c.args.at in
    let old = c.args.cursor.now in
    let fault = c.in_err-operands.field-0.0 in
    let p = err_from_is_err_and c.from_residual.result c.from_residual.ensures.1 in
    let refused = subst (λ f. judged at (reads (operands_at at f) old.at old.rest) ≡ Err fault) c.form-form.ensures c.in_err-operands.ensures in
    rw (p.1, p.2) (opcode_err at c.args.opcode (operands_at at (form c.args.opcode)) old fault refused)

pub returns : goal.returns
returns c =
    let at = c.args.at in
    let old = c.args.cursor.now in
    let new = c.operands.new.cursor in
    let is = operands_view c.in_ok-operands.operands in
    let taken = subst (λ f. judged at (reads (operands_at at f) old.at old.rest) ≡ Ok (is, new)) c.form-form.ensures c.in_ok-operands.ensures in
    opcode_ok at c.args.opcode (operands_at at (form c.args.opcode)) old is new taken

pub returns-in-Nothing : goal.returns-in-Nothing
unfolding operands_at
returns-in-Nothing c =
    let at = c.args.at in
    let old = c.args.cursor.now in
    let taken = subst (λ f. judged at (reads (operands_at at f) old.at old.rest) ≡ Ok (nothing, old)) (sym c.in-Nothing.is ∙ c.form-form.ensures) refl in
    opcode_ok at c.args.opcode (operands_at at (form c.args.opcode)) old nothing old taken
