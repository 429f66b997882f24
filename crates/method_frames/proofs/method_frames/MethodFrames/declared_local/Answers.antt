use Rattle.std.proofs.Common.{◌∙◌, get_or, ap, sym, subst}
use Rattle.type_numbers.specs.Numbers.{IsGiven}
use Rattle.method_frames.proofs.MethodParts.{is_declared, its_frame}
use Rattle.method_frames.proofs.method_frames.MethodFrames.declared_local.Goals as goal

pub declared-requires : goal.declared-requires
declared-requires g c =
    let x = c.self.inside in
    let own = is_declared x.locals x.stacks x.flag x.max_locals x.declared.items x.places.items c.args.self.now c.self.view_is c.self.invariant c.args.frame c.requires c.index-declared.result.now c.index-declared.ensures in
    own.locals

pub returns-clause-number : goal.returns-clause-number
returns-clause-number g c =
    let x = c.self.inside in
    let frame = its_frame x.locals x.stacks x.flag x.max_locals x.declared.items x.places.items c.args.self.now c.self.view_is c.self.invariant c.args.frame c.requires c.index-declared.result.now c.index-declared.ensures in
    c.declared.ensures.number ∙ sym (ap (λ f. get_or f.locals c.args.place 0) frame)

pub returns-clause-given : goal.returns-clause-given
returns-clause-given g c = subst (λ y. IsGiven y.types c.declared.result) c.self.view_is c.declared.ensures.given
