use Rattle.std.proofs.Common.{refl}
use Rattle.method_frames.proofs.MethodParts.{rows_set, stacks_stay, grown}
use Rattle.method_frames.proofs.method_frames.MethodFrames.set_local.Goals as goal

pub invariant_of-self : goal.invariant_of-self
invariant_of-self g c =
    let x = c.self.inside in
    grown x.locals c.set.new.self x.stacks x.stacks (rows_set x.locals c.set.new.self c.args.place c.args.number c.set.result c.set.ensures.ok c.set.ensures.err) (stacks_stay x.stacks x.stacks refl)
    x.max_locals x.declared.items x.places.items c.self.invariant
