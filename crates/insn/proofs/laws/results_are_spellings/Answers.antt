use Rattle.insn.proofs.CodeResults.{is_code_result, only_result}
use Rattle.insn.proofs.laws.results_are_spellings.Goals as goal

pub returns : goal.returns
returns c = record { is = is_code_result; only = only_result }
