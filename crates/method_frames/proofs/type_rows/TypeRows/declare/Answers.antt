use Rattle.method_frames.proofs.Holding.{declared_held}
use Rattle.method_frames.proofs.Lacking.{declared_lacking}
use Rattle.method_frames.proofs.type_rows.TypeRows.declare.Goals as goal

pub invariant_of-self : goal.invariant_of-self
invariant_of-self g c =
    let x = c.self.inside in
    record {
      held = declared_held x.types.now x.rows c.declare.new.self c.declare.result x.holders c.self.invariant.held c.declare.ensures.ok c.declare.ensures.err;
      lacking = declared_lacking x.types.now x.rows c.declare.new.self c.declare.result x.lacking c.self.invariant.lacking c.declare.ensures.ok c.declare.ensures.err;
    }
