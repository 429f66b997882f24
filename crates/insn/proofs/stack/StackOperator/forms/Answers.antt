use Rattle.insn.specs.Operators.{stack_forms, stack_operators}
use Rattle.insn.specs.private.Table.{stack_table_row}
use Rattle.insn.proofs.Rows.{row_there}
use Rattle.insn.proofs.stack.StackOperator.forms.Goals as goal

pub returns : goal.returns
returns c = row_there stack_table_row stack_forms stack_operators c.args.self c.place.result c.stack_rows.result.now _ c.stack_rows.ensures.all c.place.ensures
