use Rattle.layout.specs.Format.{part, done}
use Rattle.layout.specs.StreamLaws.{then_streams}
use Rattle.classfile.specs.Outline.{both, bytes}
use Rattle.classfile.proofs.outline.both.Goals as goal

pub returns : goal.returns
unfolding both
returns g c = then_streams (part c.args.first done) (λ skipped. bytes c.args.second) (λ x. x) _ _ _ _ _ _ _ _ c.in_ok-part.ensures c.bytes.ensures
