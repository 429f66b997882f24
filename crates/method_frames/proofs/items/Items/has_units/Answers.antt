use Rattle.std.proofs.Common.{◌≡◌, ◌∙◌, ◌+◌, length, sym, ap, arith}
use Rattle.frames.specs.Slots.{units_of}
use Rattle.type_numbers.specs.Decoding.{types_by}
use Rattle.method_frames.proofs.Counting.{units_told, has_told, wides_most}
use Rattle.method_frames.proofs.items.Items.has_units.Goals as goal

pub overflow_add-result : goal.overflow_add-result
overflow_add-result c = let x = c.self.inside in omega (arith, wides_most x.numbers.items x.wides c.self.invariant.counted, c.len.ensures, x.numbers.ok.0)

pub returns : goal.returns
returns c = λ s.
    let x = c.self.inside in
    let told : units_of (types_by s c.args.self.now) ≡ length x.numbers.items + x.wides = ap (λ ns. units_of (types_by s ns)) (sym c.self.view_is) ∙ units_told x.numbers.items x.wides c.self.invariant.counted s in
    has_told c.args.count (c.len.result + x.wides) c.args.count (units_of (types_by s c.args.self.now)) (λ h. omega (arith, told, c.len.ensures, x.numbers.ok.0, h)) (λ h. omega (arith, told, c.len.ensures, x.numbers.ok.0, h))
