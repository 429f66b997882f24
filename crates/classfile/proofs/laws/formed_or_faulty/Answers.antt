use Rattle.classfile.proofs.FormedOrFaulty.{formed_or_faulty}
use Rattle.classfile.proofs.laws.formed_or_faulty.Goals as goal

pub returns : goal.returns
returns c = formed_or_faulty
