use Rattle.type_numbers.proofs.Tables.{table_stays}
use Rattle.type_numbers.proofs.laws.tables_stay.Goals as goal

pub returns : goal.returns
returns c = table_stays
