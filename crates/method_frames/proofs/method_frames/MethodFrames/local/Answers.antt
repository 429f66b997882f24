use Rattle.method_frames.proofs.Given.{top_given}
use Rattle.method_frames.proofs.method_frames.MethodFrames.local.Goals as goal

pub returns-else-place-from-clause-given : goal.returns-else-place-from-clause-given
returns-else-place-from-clause-given g c = top_given c.args.self.now.types
