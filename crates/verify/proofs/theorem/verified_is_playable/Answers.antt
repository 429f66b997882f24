use Rattle.verify.proofs.safety.ClassRuns.{verified_is_playable}
use Rattle.verify.proofs.theorem.verified_is_playable.Goals as goal

pub returns : goal.returns
returns c = verified_is_playable
