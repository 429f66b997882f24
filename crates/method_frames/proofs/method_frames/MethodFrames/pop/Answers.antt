use Rattle.std.proofs.Common.{refl}
use Rattle.method_frames.proofs.MethodParts.{rows_stay, stacks_popped, grown}
use Rattle.method_frames.proofs.method_frames.MethodFrames.pop.Goals as goal

pub invariant_of-self : goal.invariant_of-self
invariant_of-self g c =
    let x = c.self.inside in
    grown x.locals x.locals x.stacks c.pop.new.self (rows_stay x.locals x.locals refl) (stacks_popped x.stacks c.pop.new.self c.pop.result c.pop.ensures.taken)
    x.max_locals x.declared.items x.places.items c.self.invariant
