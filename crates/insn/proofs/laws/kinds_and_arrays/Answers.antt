use Rattle.insn.proofs.ByUnits.{kinds_are_rows, arrays_are_taken}
use Rattle.insn.proofs.laws.kinds_and_arrays.Goals as goal

pub returns-clause-kinds : goal.returns-clause-kinds
returns-clause-kinds c = kinds_are_rows

pub returns-clause-arrays : goal.returns-clause-arrays
returns-clause-arrays c = arrays_are_taken
