use Rattle.std.proofs.Common.{◌≡◌, ◌∙◌, ◌+◌, ◌-◌, Some, map, get_or, slice_get, ap, subst, arith}
use Rattle.std.specs.Prelude.{IsSomeAnd}
use Rattle.insn.specs.Offsets.{at_offset}
use Rattle.method_frames.specs.private.Frames.{frame_at}
use Rattle.method_frames.proofs.Offsets.{is_found}
use Rattle.method_frames.proofs.method_frames.MethodFrames.find.Goals as goal

pub returns : goal.returns
returns g c =
    let x = c.self.inside in
    let place = c.place_at-place.result in
    let some = c.if-place-eq0.false in
    let at : get_or x.places.items c.args.offset 0 ≡ place - 1 + 1 =
    let e = c.place_at-place.ensures ∙ ap (λ ps. get_or ps c.args.offset 0) c.deref.ensures.value in omega (arith, e, some) in
    subst (λ y. IsSomeAnd (slice_get y.declared (place - 1)) (λ f. (f.0 ≡ c.args.offset) × (at_offset y.declared c.args.offset ≡ Some f.1))) c.self.view_is
    (is_found x.places.items (map (frame_at x.locals x.stacks) x.declared.items) c.args.offset (place - 1) c.self.invariant.table at)
