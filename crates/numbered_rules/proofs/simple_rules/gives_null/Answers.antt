use Rattle.std.proofs.Common.{refl}
use Rattle.frames.specs.VerificationType.{null}
use Rattle.numbered_rules.proofs.simple_rules.gives_null.Goals as goal

pub gives-requires : goal.gives-requires
gives-requires g c = (null, record { number = refl; noted = tt })
