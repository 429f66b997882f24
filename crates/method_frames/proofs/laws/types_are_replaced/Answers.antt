use Rattle.method_frames.proofs.ObjectTypes.{row_replaced}
use Rattle.method_frames.proofs.laws.types_are_replaced.Goals as goal

pub returns : goal.returns
returns c = λ s object by o t number becomes own row all. row_replaced s object o number own by t becomes row all
