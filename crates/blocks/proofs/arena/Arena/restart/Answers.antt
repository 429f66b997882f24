use Rattle.std.proofs.Common.{◌∙◌}
use Rattle.blocks.proofs.Pendings.{none_pending}
use Rattle.blocks.proofs.arena.Arena.restart.Goals as goal

pub returns : goal.returns
returns c = none_pending c.forget.new.pending.pairs.items c.restart.new.self c.forget.ensures ∙ c.restart.ensures
