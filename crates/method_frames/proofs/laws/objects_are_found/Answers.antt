use Rattle.method_frames.proofs.ObjectTypes.{found}
use Rattle.method_frames.proofs.laws.objects_are_found.Goals as goal

pub returns : goal.returns
returns c = λ s object o number own row all. found s object o number own row all
