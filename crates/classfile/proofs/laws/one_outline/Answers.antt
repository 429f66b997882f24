use Rattle.classfile.proofs.OutlineFaults.{one_outline}
use Rattle.classfile.proofs.laws.one_outline.Goals as goal

pub returns : goal.returns
returns c a b x y same s t = one_outline a b x y same s t
