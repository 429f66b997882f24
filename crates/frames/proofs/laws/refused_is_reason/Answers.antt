use Rattle.frames.proofs.Refused.{refused_is_reason}
use Rattle.frames.proofs.laws.refused_is_reason.Goals as goal

pub returns : goal.returns
returns c = refused_is_reason
