use Rattle.std.proofs.Common.{refl}
use Rattle.method_frames.proofs.Given.{top_given}
use Rattle.method_frames.proofs.MethodParts.{rows_run, stacks_stay, grown}
use Rattle.method_frames.proofs.method_frames.MethodFrames.forget.Goals as goal

pub replace-requires-clause-given : goal.replace-requires-clause-given
replace-requires-clause-given g c = top_given c.self.inside.locals.types

pub invariant_of-self : goal.invariant_of-self
invariant_of-self g c =
    let x = c.self.inside in
    grown x.locals c.replace.new.self x.stacks x.stacks (rows_run x.locals c.replace.new.self c.replace.new.self.running c.replace.ensures.size c.replace.ensures.rest) (stacks_stay x.stacks x.stacks refl)
    x.max_locals x.declared.items x.places.items c.self.invariant
