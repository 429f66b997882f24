use Rattle.method_frames.proofs.ObjectTypes.{own_number, made_number}
use Rattle.method_frames.proofs.laws.objects_have_numbers.Goals as goal

pub returns : goal.returns
returns c = λ s. (own_number s, made_number s)
