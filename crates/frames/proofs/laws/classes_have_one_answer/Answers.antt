use Rattle.frames.proofs.Types.{one_class_answer}
use Rattle.frames.proofs.laws.classes_have_one_answer.Goals as goal

pub returns : goal.returns
returns c = one_class_answer
