use Rattle.std.proofs.Common.{◌∙◌, ap}
use Rattle.blocks.specs.Rows.{Rows, declared_row}
use Rattle.blocks.proofs.Pendings.{none_pending}
use Rattle.blocks.proofs.arena.Arena.take.Goals as goal

pub returns : goal.returns
returns c =
    none_pending c.forget.new.pending.pairs.items c.take.new.self c.forget.ensures
    ∙ c.take.ensures
    ∙ ap (λ (x : Rows). let y : Rows = record x { running = declared_row x c.args.row } in y) c.self.view_is
