use Rattle.std.specs.Prelude.{nat_eq, if◌then◌else◌}
use Rattle.layout.specs.Format.{number, refuse}
use Rattle.layout.specs.StreamLaws.{then_streams}
use Rattle.layout.specs.declared.fault.ReadFault.TheVariants.{BadMagic}
use Rattle.classfile.specs.Outline.{numbers, head}
use Rattle.classfile.proofs.outline.head.Goals as goal

pub returns : goal.returns
unfolding head
returns g c = then_streams (number 4) (λ magic. if nat_eq magic 0xCAFEBABE then numbers 2 else refuse (λ at. BadMagic)) (λ x. x) _ _ _ _ _ _ _ _ c.in_ok-u4.ensures (rw c.if-branch.false c.numbers.ensures)
