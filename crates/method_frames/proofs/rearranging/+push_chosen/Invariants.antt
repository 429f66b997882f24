use Rattle.std.proofs.Common.{length}
use Rattle.method_frames.proofs.rearranging.+push_chosen.Given as goal

abbrev pub decreases-push_chosen : goal.decreases-push_chosen
decreases-push_chosen l = length l.places.now
