use Rattle.std.proofs.Common.{◌≡◌, ◌∙◌, sym, ap, subst}
use Rattle.method_frames.specs.NumberedRows.{NumberedRows}
use Rattle.method_frames.proofs.Holding.{forgotten_held, forgotten_rest}
use Rattle.method_frames.proofs.Lacking.{noted_lacking}
use Rattle.method_frames.proofs.type_rows.TypeRows.make_room.Goals as goal

pub invariant_of-self : goal.invariant_of-self
invariant_of-self g c =
    let x = c.self.inside in
    let same = forgotten_rest x.rows c.make_room.new.self c.make_room.ensures in
    record {
      held = forgotten_held x.types.now x.rows c.make_room.new.self x.holders c.make_room.ensures c.self.invariant.held;
      lacking = noted_lacking x.types.now x.rows c.make_room.new.self x.lacking same.0 same.1 c.self.invariant.lacking;
    }
