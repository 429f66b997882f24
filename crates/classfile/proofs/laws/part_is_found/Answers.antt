use Rattle.classfile.proofs.FoundParts.{part_is_found}
use Rattle.classfile.proofs.laws.part_is_found.Goals as goal

pub returns : goal.returns
returns c = part_is_found
