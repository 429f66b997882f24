use Rattle.names.proofs.AnswerLaws.{field_answered, field_spelled, field_refused, field_fault}
use Rattle.names.proofs.reading.field_answers.Goals as goal

pub returns-clause-named : goal.returns-clause-named
returns-clause-named c = λ bytes t. (field_answered bytes t, λ h. field_spelled bytes t h.0 h.1)

pub returns-clause-refused : goal.returns-clause-refused
returns-clause-refused c = λ bytes e. (field_refused bytes e, field_fault bytes e)
