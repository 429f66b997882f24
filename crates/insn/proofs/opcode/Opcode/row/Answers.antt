use Rattle.insn.proofs.Rows.{row_at}
use Rattle.insn.proofs.opcode.Opcode.row.Goals as goal

pub returns : goal.returns
returns c = row_at c.rows.result.now c.number.result c.args.self _ c.rows.ensures.all c.number.ensures
