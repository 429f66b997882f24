use Rattle.type_numbers.proofs.Tables.{table_read}
use Rattle.type_numbers.proofs.constant_table.ConstantTable.method_types.Goals as goal

pub returns-clause-described : goal.returns-clause-described
returns-clause-described g c = table_read c.args.numbers.now c.types.new.numbers c.args.pool.now c.args.self.now c.types.new.self c.types.ensures.kept c.requires.described c.types.result c.types.ensures.grown
