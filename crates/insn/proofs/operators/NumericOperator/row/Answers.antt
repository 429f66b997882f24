use Rattle.std.proofs.Common.{ap, arith}
use Rattle.std.proofs.lemmas.Option.{slice_get_within}
use Rattle.insn.specs.Operators.{NumericRow, numeric_row, numeric_operators}
use Rattle.insn.specs.private.Table.{numeric_table_row}
use Rattle.insn.proofs.Rows.{row_there, row_within}
use Rattle.insn.proofs.operators.NumericOperator.row.Goals as goal

pub offset_bounds-numeric_rows-place : goal.offset_bounds-numeric_rows-place
offset_bounds-numeric_rows-place c = let within = slice_get_within numeric_operators c.place.result c.args.self c.place.ensures in omega arith

pub bounds-numeric_rows-place : goal.bounds-numeric_rows-place
bounds-numeric_rows-place c = row_within numeric_table_row numeric_row numeric_operators c.args.self c.place.result c.numeric_rows.result.now c.numeric_rows.ensures.all c.place.ensures

pub bounds-numeric_rows-place-2 : goal.bounds-numeric_rows-place-2
bounds-numeric_rows-place-2 c = row_within numeric_table_row numeric_row numeric_operators c.args.self c.place.result c.numeric_rows.result.now c.numeric_rows.ensures.all c.place.ensures

pub returns-clause-taken : goal.returns-clause-taken
returns-clause-taken c =
    ap (λ (r : NumericRow). r.taken) (row_there numeric_table_row numeric_row numeric_operators c.args.self c.place.result c.numeric_rows.result.now _ c.numeric_rows.ensures.all c.place.ensures)

pub returns-clause-given : goal.returns-clause-given
returns-clause-given c =
    ap (λ (r : NumericRow). r.given) (row_there numeric_table_row numeric_row numeric_operators c.args.self c.place.result c.numeric_rows.result.now _ c.numeric_rows.ensures.all c.place.ensures)
