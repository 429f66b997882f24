use Rattle.std.proofs.Common.{sym}
use Rattle.insn.proofs.Rows.{no_opcode, row_of_number}
use Rattle.insn.proofs.table.row_at.Goals as goal

pub returns-in_err-row : goal.returns-in_err-row
returns-in_err-row c = rw c.from_residual.ensures (sym (no_opcode c.rows.result.now c.args.number c.rows.ensures.order c.in_err-row.ensures.lookup.3))

pub returns : goal.returns
returns c =
    let read = c.in_ok-row.ensures.lookup.3 in
    row_of_number c.rows.result.now c.args.number c.in_ok-row.row.now c.rows.ensures.all c.rows.ensures.order c.rows.ensures.acts read.0 (read.1 c.in_ok-row.row.now)
