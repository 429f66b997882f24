use Rattle.layout.specs.Format.{number}
use Rattle.layout.specs.StreamLaws.{then_streams}
use Rattle.classfile.specs.Outline.{text, bytes}
use Rattle.classfile.proofs.outline.text.Goals as goal

pub returns : goal.returns
unfolding text
returns g c = then_streams (number 2) bytes (λ x. x) _ _ _ _ _ _ _ _ c.in_ok-length.ensures c.bytes.ensures
