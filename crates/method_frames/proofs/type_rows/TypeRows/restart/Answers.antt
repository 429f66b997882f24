use Rattle.std.proofs.Common.{subst, sym}
use Rattle.method_frames.specs.private.Holders.{AreHeld}
use Rattle.method_frames.proofs.Holding.{tops_held}
use Rattle.method_frames.proofs.type_rows.TypeRows.restart.Goals as goal

pub invariant_of-self : goal.invariant_of-self
invariant_of-self g c =
    let x = c.self.inside in
    record { held = subst (λ rows. AreHeld x.types.now rows c.clear.new.self) (sym c.restart.ensures) (tops_held x.types.now c.args.count c.clear.new.self); lacking = tt }
