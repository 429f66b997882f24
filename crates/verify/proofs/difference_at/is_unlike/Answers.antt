use Rattle.std.proofs.Common.{◌∙◌, ap}
use Rattle.frames.specs.Differences.{is_sought}
use Rattle.verify.proofs.Ways.{way_is_some}
use Rattle.verify.proofs.difference_at.is_unlike.Goals as goal

pub returns-clause-unlike : goal.returns-clause-unlike
returns-clause-unlike g c =
    c.is_sought.ensures ∙ ap (is_sought c.args.sought) c.in_ok-told.ensures.told ∙ way_is_some c.args.sought c.args.frames.now c.args.way c.in_ok-told.ensures.even
