use Rattle.insn.proofs.CodeSpellings.{one_spelling, code_placed, list_measured}
use Rattle.insn.proofs.laws.list_is_one_code.Goals as goal

pub returns-clause-spelling : goal.returns-clause-spelling
returns-clause-spelling c = one_spelling

pub returns-clause-starts : goal.returns-clause-starts
returns-clause-starts c = code_placed

pub returns-clause-size : goal.returns-clause-size
returns-clause-size c = list_measured
