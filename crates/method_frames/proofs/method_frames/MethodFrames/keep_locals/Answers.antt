use Rattle.std.proofs.Common.{refl, subst, sym}
use Rattle.method_frames.specs.private.Frames.{AreFrames}
use Rattle.method_frames.proofs.MethodParts.{rows_kept, stacks_stay, grown}
use Rattle.method_frames.proofs.method_frames.MethodFrames.keep_locals.Goals as goal

pub invariant_of-self : goal.invariant_of-self
invariant_of-self g c =
    let x = c.self.inside in
    subst (λ locals. AreFrames locals x.stacks x.max_locals x.declared.items x.places.items) (sym c.in_err-keep.ensures.err) c.self.invariant

pub invariant_of-self-2 : goal.invariant_of-self-2
invariant_of-self-2 g c =
    let x = c.self.inside in
    grown x.locals c.keep.new.self x.stacks x.stacks (rows_kept x.locals c.keep.new.self c.in_ok-keep.ensures.ok) (stacks_stay x.stacks x.stacks refl)
    x.max_locals x.declared.items x.places.items c.self.invariant
