use Rattle.method_frames.proofs.MethodParts.{is_declared, its_locals}
use Rattle.method_frames.proofs.method_frames.MethodFrames.first_unequal.Goals as goal

pub first_unequal-requires-clause-row : goal.first_unequal-requires-clause-row
first_unequal-requires-clause-row g c =
    let x = c.self.inside in
    (is_declared x.locals x.stacks x.flag x.max_locals x.declared.items x.places.items c.args.self.now c.self.view_is c.self.invariant c.args.frame c.requires.frame c.index.result.now c.index.ensures).locals

pub first_unequal-requires-clause-other : goal.first_unequal-requires-clause-other
first_unequal-requires-clause-other g c =
    let x = c.self.inside in
    (is_declared x.locals x.stacks x.flag x.max_locals x.declared.items x.places.items c.args.self.now c.self.view_is c.self.invariant c.args.other c.requires.other c.index-2.result.now c.index-2.ensures).locals

pub returns-clause-even : goal.returns-clause-even
returns-clause-even g c =
    let x = c.self.inside in
    its_locals x.locals x.stacks x.flag x.max_locals x.declared.items x.places.items c.args.self.now c.self.view_is c.self.invariant c.args.frame c.requires.frame c.index.result.now c.index.ensures
