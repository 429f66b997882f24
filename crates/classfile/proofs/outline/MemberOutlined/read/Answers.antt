use Rattle.layout.specs.StreamLaws.{then_streams}
use Rattle.classfile.specs.Outline.{attributes, numbers, member}
use Rattle.classfile.proofs.outline.MemberOutlined.read.Goals as goal

pub returns : goal.returns
unfolding member
returns g c = then_streams (numbers 3) (λ skipped. attributes) (λ x. x) _ _ _ _ _ _ _ _ c.in_ok-numbers.ensures c.attributes.ensures
