use Rattle.names.proofs.AnswerLaws.{method_answered, method_spelled, method_refused, method_fault}
use Rattle.names.proofs.reading.method_answers.Goals as goal

pub returns-clause-named : goal.returns-clause-named
returns-clause-named c = λ receiver bytes m. (method_answered receiver bytes m, λ h. method_spelled receiver bytes m h.0 h.1 h.2)

pub returns-clause-refused : goal.returns-clause-refused
returns-clause-refused c = λ receiver bytes e. (method_refused receiver bytes e, method_fault receiver bytes e)
