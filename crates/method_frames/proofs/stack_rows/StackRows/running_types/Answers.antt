use Rattle.std.proofs.Common.{◌≡◌, ◌∙◌, length, reverse, ap, sym, subst, arith}
use Rattle.std.proofs.lemmas.List.{length-reverse, take_all}
use Rattle.frames.specs.VerificationType.{type_of}
use Rattle.type_numbers.specs.Numbers.{IsGiven, IsNumber}
use Rattle.type_numbers.specs.Decoding.{types_by}
use Rattle.method_frames.proofs.StackGiven.{reversed_given}
use Rattle.method_frames.proofs.Typing.{typed_more, typed_down}
use Rattle.method_frames.proofs.stack_rows.StackRows.running_types.Goals as goal

pub vtype-requires : goal.vtype-requires
vtype-requires g c =
    let x = c.self.inside in
    subst (λ s. IsGiven s c.get.result) (sym c.types.ensures) (subst (IsGiven x.rows.types) (sym c.get.ensures) (reversed_given x.rows.types x.items c.self.invariant.given _))

pub loop-place-preserved : goal.loop-place-preserved
loop-place-preserved g c =
    let x = c.self.inside in
    let now = c.args.self.now in
    let same : c.types.result.now ≡ now.types = c.types.ensures ∙ ap (λ y. y.types) c.self.view_is in
    let items : x.items ≡ now.running = ap (λ y. y.running) c.self.view_is in
    let long : length (reverse now.running) ≡ length x.items = length-reverse now.running ∙ sym (ap length items) in
    typed_more now.types (reverse now.running) c.loop-place.place c.get.result c.loop-place.types.items c.push.new.self.items c.vtype.result (omega (arith, c.loop-place-test.true, c.count-depth.ensures, long))
    c.loop-place.invariant (grind (arith, c.get.ensures, items)) (subst (λ s. IsNumber s c.get.result (type_of c.vtype.result)) same c.vtype.ensures) c.in_ok-push.ensures.items

pub returns : goal.returns
returns g c =
    let x = c.self.inside in
    let now = c.args.self.now in
    let long : length (reverse now.running) ≡ length x.items = length-reverse now.running ∙ sym (ap (λ y. length y.running) c.self.view_is) in
    typed_down now.types now.running c.loop-place.types.items
    (c.loop-place.invariant ∙ ap (types_by now.types) (take_all c.loop-place.place (reverse now.running) (omega (arith, c.loop-place-test.false, c.count-depth.ensures, long))))
