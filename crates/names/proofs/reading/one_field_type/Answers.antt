use Rattle.names.proofs.AnswerLaws.{one_field}
use Rattle.names.proofs.reading.one_field_type.Goals as goal

pub returns : goal.returns
returns c = one_field
