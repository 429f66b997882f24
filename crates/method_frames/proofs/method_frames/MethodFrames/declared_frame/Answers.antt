use Rattle.std.proofs.Common.{◌≡◌, ◌∙◌, map, reverse, ap, ap₂, sym, arith}
use Rattle.std.proofs.lemmas.List.{take_all}
use Rattle.frames.specs.VerificationType.{type_of}
use Rattle.type_numbers.specs.Decoding.{types_by}
use Rattle.method_frames.specs.NumberedRows.{declared_in}
use Rattle.method_frames.specs.NumberedFrames.{NumberedFrame, NumberedFrames, declared_frame}
use Rattle.method_frames.proofs.MethodParts.{is_declared, its_frame}
use Rattle.method_frames.proofs.Typing.{frame_typed}
use Rattle.method_frames.proofs.method_frames.MethodFrames.declared_frame.Goals as goal

pub declared_types-requires-clause-row : goal.declared_types-requires-clause-row
declared_types-requires-clause-row g c =
    let x = c.self.inside in
    (is_declared x.locals x.stacks x.flag x.max_locals x.declared.items x.places.items c.args.self.now c.self.view_is c.self.invariant c.args.frame c.requires c.index-declared.result.now c.index-declared.ensures).locals

pub declared_types-requires-2 : goal.declared_types-requires-2
declared_types-requires-2 g c =
    let x = c.self.inside in
    (is_declared x.locals x.stacks x.flag x.max_locals x.declared.items x.places.items c.args.self.now c.self.view_is c.self.invariant c.args.frame c.requires c.index-declared.result.now c.index-declared.ensures).stack

pub returns : goal.returns
returns g c =
    let x = c.self.inside in
    let d = c.index-declared.result.now in
    let s = c.args.self.now.types in
    let f = declared_frame c.args.self.now c.args.frame in
    let own = is_declared x.locals x.stacks x.flag x.max_locals x.declared.items x.places.items c.args.self.now c.self.view_is c.self.invariant c.args.frame c.requires c.index-declared.result.now c.index-declared.ensures in
    let is = its_frame x.locals x.stacks x.flag x.max_locals x.declared.items x.places.items c.args.self.now c.self.view_is c.self.invariant c.args.frame c.requires c.index-declared.result.now c.index-declared.ensures in
    let same : x.locals.types ≡ s = ap (λ (y : NumberedFrames). y.types) c.self.view_is in
    let locals : map type_of c.in_ok-declared_types.field-0.items ≡ types_by s f.locals =
    c.in_ok-declared_types.ensures ∙ ap₂ types_by same (take_all c.from-count.result (declared_in x.locals d.locals) (omega (arith, own.even, c.self.invariant.count, c.from-count.ensures)) ∙ sym (ap (λ (y : NumberedFrame). y.locals) is)) in
    let stack : reverse (map type_of c.in_ok-declared_types-2.field-0.items) ≡ types_by s f.stack =
    c.in_ok-declared_types-2.ensures ∙ ap₂ types_by (c.self.invariant.types ∙ same) (sym (ap (λ (y : NumberedFrame). y.stack) is)) in
    let flag : f.flag ≡ d.flag = ap (λ (y : NumberedFrame). y.flag) is in
    frame_typed s f locals stack (grind (arith, flag))
