use Rattle.std.proofs.Common.{◌∙◌, length, ap}
use Rattle.method_frames.specs.NumberedRows.{declared_in}
use Rattle.method_frames.proofs.MethodParts.{rows_run, stacks_run, grown, is_declared}
use Rattle.method_frames.proofs.method_frames.MethodFrames.take.Goals as goal

pub take-requires : goal.take-requires
take-requires g c =
    let x = c.self.inside in
    let own = is_declared x.locals x.stacks x.flag x.max_locals x.declared.items x.places.items c.args.self.now c.self.view_is c.self.invariant c.args.frame c.requires c.index-declared.result.now c.index-declared.ensures in
    own.locals

pub take-requires-2 : goal.take-requires-2
take-requires-2 g c =
    let x = c.self.inside in
    let own = is_declared x.locals x.stacks x.flag x.max_locals x.declared.items x.places.items c.args.self.now c.self.view_is c.self.invariant c.args.frame c.requires c.index-declared.result.now c.index-declared.ensures in
    own.stack

pub invariant_of-self : goal.invariant_of-self
invariant_of-self g c =
    let x = c.self.inside in
    let d = c.index-declared.result.now in
    let own = is_declared x.locals x.stacks x.flag x.max_locals x.declared.items x.places.items c.args.self.now c.self.view_is c.self.invariant c.args.frame c.requires d c.index-declared.ensures in
    grown x.locals c.take.new.self x.stacks c.take-2.new.self (rows_run x.locals c.take.new.self (declared_in x.locals d.locals) own.even c.take.ensures)
    (stacks_run x.stacks c.take-2.new.self c.take-2.new.self.running c.take-2.ensures.rest) x.max_locals x.declared.items x.places.items c.self.invariant

pub returns-clause-size : goal.returns-clause-size
returns-clause-size g c =
    let x = c.self.inside in
    let own = is_declared x.locals x.stacks x.flag x.max_locals x.declared.items x.places.items c.args.self.now c.self.view_is c.self.invariant c.args.frame c.requires c.index-declared.result.now c.index-declared.ensures in
    ap (λ r. length r.running) c.take.ensures ∙ own.even ∙ ap (λ y. length y.running.locals) c.self.view_is
