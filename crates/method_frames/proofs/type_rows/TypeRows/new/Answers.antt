use Rattle.std.proofs.Common.{subst, sym}
use Rattle.method_frames.specs.private.Holders.{AreHeld}
use Rattle.method_frames.proofs.Holding.{tops_held}
use Rattle.method_frames.proofs.type_rows.TypeRows.new.Goals as goal

pub invariant_of-result : goal.invariant_of-result
invariant_of-result g c = record { held = subst (λ rows. AreHeld c.args.types.now rows c.new-2.result) (sym c.in_ok-new.ensures) (tops_held c.args.types.now c.args.count c.new-2.result); lacking = tt }
