use Rattle.method_frames.proofs.MethodParts.{is_declared}
use Rattle.method_frames.proofs.method_frames.MethodFrames.answer.Goals as goal

pub answer-locals-requires : goal.answer-locals-requires
answer-locals-requires g c =
    let x = c.self.inside in
    let own = is_declared x.locals x.stacks x.flag x.max_locals x.declared.items x.places.items c.args.self.now c.self.view_is c.self.invariant c.args.frame c.requires c.index-declared.result.now c.index-declared.ensures in
    record { row = own.locals }

pub answer-requires : goal.answer-requires
answer-requires g c =
    let x = c.self.inside in
    let own = is_declared x.locals x.stacks x.flag x.max_locals x.declared.items x.places.items c.args.self.now c.self.view_is c.self.invariant c.args.frame c.requires c.index-declared.result.now c.index-declared.ensures in
    own.stack
