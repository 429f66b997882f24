use Rattle.std.proofs.Common.{rules}
use Rattle.verify.proofs.refusal.refuse_code.Goals as goal

pub returns : goal.returns
returns c = search rules
