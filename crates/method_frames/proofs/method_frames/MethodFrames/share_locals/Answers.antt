use Rattle.method_frames.proofs.MethodParts.{is_declared}
use Rattle.method_frames.proofs.method_frames.MethodFrames.share_locals.Goals as goal

pub are_equal-requires-clause-row : goal.are_equal-requires-clause-row
are_equal-requires-clause-row g c =
    let x = c.self.inside in
    (is_declared x.locals x.stacks x.flag x.max_locals x.declared.items x.places.items c.args.self.now c.self.view_is c.self.invariant c.args.frame c.requires.frame c.index.result.now c.index.ensures).locals

pub are_equal-requires-clause-other : goal.are_equal-requires-clause-other
are_equal-requires-clause-other g c =
    let x = c.self.inside in
    (is_declared x.locals x.stacks x.flag x.max_locals x.declared.items x.places.items c.args.self.now c.self.view_is c.self.invariant c.args.other c.requires.other c.index-2.result.now c.index-2.ensures).locals
