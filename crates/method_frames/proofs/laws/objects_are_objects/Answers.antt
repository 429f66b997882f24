use Rattle.method_frames.proofs.ObjectNumbers.{object_by_type}
use Rattle.method_frames.proofs.laws.objects_are_objects.Goals as goal

pub returns : goal.returns
returns c = object_by_type
