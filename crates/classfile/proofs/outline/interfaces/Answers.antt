use Rattle.layout.specs.Format.{number}
use Rattle.layout.specs.StreamLaws.{then_streams}
use Rattle.classfile.specs.Outline.{numbers, interfaces}
use Rattle.classfile.proofs.outline.interfaces.Goals as goal

pub returns : goal.returns
unfolding interfaces
returns g c = then_streams (number 2) (numbers) (λ x. x) _ _ _ _ _ _ _ _ c.in_ok-count.ensures c.numbers.ensures
