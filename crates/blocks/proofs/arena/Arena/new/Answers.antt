use Rattle.std.proofs.Common.{◌∙◌}
use Rattle.blocks.proofs.Pendings.{none_pending}
use Rattle.blocks.proofs.arena.Arena.new.Goals as goal

pub returns : goal.returns
returns c = none_pending c.new-2.result.pairs.items c.in_ok-new.field-0 c.new-2.ensures ∙ c.in_ok-new.ensures
