use Rattle.std.proofs.Common.{subst, sym}
use Rattle.method_frames.specs.private.KnownRows.{AreGiven}
use Rattle.method_frames.proofs.declaring.declare.Goals as goal

pub declare_within-requires-clause-given : goal.declare_within-requires-clause-given
declare_within-requires-clause-given g c = subst (λ x. AreGiven x.types c.args.initial.now) (sym c.lend-memory.ensures) c.requires.given
