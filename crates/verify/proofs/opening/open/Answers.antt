use Rattle.std.proofs.Common.{subst}
use Rattle.verify.specs.private.OpeningSteps.{IsDecodedOr, IsOpened}
use Rattle.verify.proofs.Formed.{opened_by}
use Rattle.verify.proofs.opening.open.Goals as goal

pub returns-in-Ok : goal.returns-in-Ok
returns-in-Ok c = λ read is. opened_by read c.in-Ok.class c.formed.result (subst (IsDecodedOr read) c.in-Ok.is is) c.formed.ensures
