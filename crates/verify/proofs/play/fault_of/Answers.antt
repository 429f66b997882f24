use Rattle.verify.proofs.Playing.{not_all_verified}
use Rattle.verify.proofs.play.fault_of.Goals as goal

pub returns-in-Refused : goal.returns-in-Refused
returns-in-Refused c = λ classes cs p. not_all_verified classes cs _ _ _ _ c.in-Refused.is p
