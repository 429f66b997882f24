use Rattle.names.proofs.AnswerLaws.{one_method}
use Rattle.names.proofs.reading.one_method_type.Goals as goal

pub returns : goal.returns
returns c = one_method
