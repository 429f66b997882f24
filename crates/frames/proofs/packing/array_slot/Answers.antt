use Rattle.std.proofs.Common.{◌≡◌, ◌∙◌, ◌+◌, ◌-◌, sym, ap, arith}
use Rattle.names.specs.Descriptors.{primitive, class}
use Rattle.frames.specs.Packing.{slot, class_slot, array_slot}
use Rattle.frames.proofs.SlotTypes.{array_counted}
use Rattle.frames.proofs.packing.array_slot.Goals as goal

pub returns-in-Primitive : goal.returns-in-Primitive
returns-in-Primitive g c =
    let some = c.requires in
    let d = c.args.dims in
    let all : 1 + (d - 1) ≡ d = omega (arith, some) in
    let classes = g.C.Classes.content c.args.classes.now in
    let p = c.in-Primitive.primitive in
    rw c.in-Primitive.is (c.slot.ensures ∙ ap (slot 9 d) c.element_code.ensures ∙ ap (λ n. array_slot classes n (primitive p)) (sym all) ∙ sym (array_counted classes 1 (d - 1) (primitive p)))

pub returns-in-Class : goal.returns-in-Class
returns-in-Class g c =
    let some = c.requires in
    let d = c.args.dims in
    let all : 1 + (d - 1) ≡ d = omega (arith, some) in
    let classes = g.C.Classes.content c.args.classes.now in
    let name = c.in-Class.name.now in
    rw c.in-Class.is (c.class_slot.ensures ∙ ap (class_slot d) c.place.ensures ∙ ap (λ n. array_slot classes n (class name)) (sym all) ∙ sym (array_counted classes 1 (d - 1) (class name)))
