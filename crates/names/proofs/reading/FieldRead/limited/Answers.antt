use Rattle.std.proofs.Common.{rules}
use Rattle.names.proofs.reading.FieldRead.limited.Goals as goal

pub overflow_cast-result : goal.overflow_cast-result
overflow_cast-result c = search rules

pub returns-clause-within : goal.returns-clause-within
returns-clause-within c = search rules
