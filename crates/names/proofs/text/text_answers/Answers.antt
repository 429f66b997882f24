use Rattle.names.proofs.UnitLaws.{good_is_text, text_is_good, bad_is_first, first_bad_is_found, units_again}
use Rattle.names.proofs.text.text_answers.Goals as goal

pub returns-clause-text : goal.returns-clause-text
returns-clause-text c = λ bytes. (good_is_text bytes, text_is_good bytes)

pub returns-clause-bad : goal.returns-clause-bad
returns-clause-bad c = λ bytes at. (bad_is_first bytes at, first_bad_is_found bytes at)

pub returns-clause-units : goal.returns-clause-units
returns-clause-units c = λ us fit. units_again us fit
