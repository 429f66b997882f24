use Rattle.std.proofs.Common.{subst, sym}
use Rattle.method_frames.specs.private.TypeRows.{AreTypeRows}
use Rattle.method_frames.proofs.Holding.{keeping_held}
use Rattle.method_frames.proofs.Lacking.{keeping_lacking}
use Rattle.method_frames.proofs.type_rows.TypeRows.keep.Goals as goal

pub invariant_of-self : goal.invariant_of-self
invariant_of-self g c =
    let x = c.self.inside in
    subst (λ rows. AreTypeRows x.types.now rows x.holders x.lacking) (sym c.in_err-keep.ensures.err) c.self.invariant

pub invariant_of-self-2 : goal.invariant_of-self-2
invariant_of-self-2 g c =
    let x = c.self.inside in
    record {
      held = keeping_held x.types.now x.rows c.keep.new.self x.holders c.in_ok-keep.ensures.ok c.self.invariant.held;
      lacking = keeping_lacking x.types.now x.rows c.keep.new.self x.lacking c.in_ok-keep.ensures.ok c.self.invariant.lacking;
    }
