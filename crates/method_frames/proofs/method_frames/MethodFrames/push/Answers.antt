use Rattle.std.proofs.Common.{◌∷◌, refl}
use Rattle.method_frames.proofs.MethodParts.{rows_stay, stacks_pushed, grown}
use Rattle.method_frames.proofs.method_frames.MethodFrames.push.Goals as goal

pub invariant_of-self : goal.invariant_of-self
invariant_of-self g c =
    let x = c.self.inside in
    grown x.locals x.locals x.stacks c.push.new.self (rows_stay x.locals x.locals refl) (stacks_pushed x.stacks c.push.new.self (c.args.number ∷ x.stacks.running) c.push.result c.push.ensures.ok c.push.ensures.err)
    x.max_locals x.declared.items x.places.items c.self.invariant
