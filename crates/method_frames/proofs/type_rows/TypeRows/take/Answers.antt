use Rattle.std.proofs.Common.{◌<◌, length, subst, sym}
use Rattle.method_frames.specs.private.Holders.{AreHeld}
use Rattle.method_frames.proofs.Holding.{taken_held}
use Rattle.method_frames.proofs.type_rows.TypeRows.take.Goals as goal

pub invariant_of-self : goal.invariant_of-self
invariant_of-self g c =
    let x = c.self.inside in
    let row = subst (λ y. c.args.row < length y.declared) (sym c.self.view_is) c.requires in
    record { held = subst (λ rows. AreHeld x.types.now rows x.holders) (sym c.take.ensures) (taken_held x.types.now x.rows c.args.row x.holders row c.self.invariant.held); lacking = tt }
