use Rattle.layout.specs.Format.{number}
use Rattle.layout.specs.StreamLaws.{then_streams}
use Rattle.classfile.specs.Outline.{repeated}
use Rattle.classfile.proofs.outline.table.Goals as goal

pub returns : goal.returns
returns g c = then_streams (number 2) (λ n. repeated n g.T.Outlined.outline) (λ x. x) _ _ _ _ _ _ _ _ c.in_ok-count.ensures c.items.ensures
