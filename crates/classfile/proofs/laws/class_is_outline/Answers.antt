use Rattle.std.proofs.Common.{arith}
use Rattle.layout.specs.StreamLaws.{spells_leads}
use Rattle.classfile.specs.Outline.{outline}
use Rattle.classfile.proofs.ClassOutlines.{class_is_outline}
use Rattle.classfile.proofs.laws.class_is_outline.Goals as goal

pub returns : goal.returns
returns c versions given class is = let within = is.within in spells_leads outline 0 given tt (class_is_outline versions given class is.spelled) (omega (arith, within))
