use Rattle.std.proofs.Common.{◌∙◌, ◌+◌, length, sym, ap}
use Rattle.std.proofs.lemmas.List.{length-reverse}
use Rattle.frames.specs.Slots.{units_of}
use Rattle.type_numbers.specs.Decoding.{types_by}
use Rattle.method_frames.proofs.Counting.{units_told}
use Rattle.method_frames.proofs.items.Items.wides.Goals as goal

pub returns : goal.returns
returns c = λ s.
    let x = c.self.inside in
    ap (λ ns. units_of (types_by s ns)) (sym c.self.view_is) ∙ units_told x.numbers.items x.wides c.self.invariant.counted s
    ∙ ap (λ n. n + x.wides) (sym (length-reverse x.numbers.items) ∙ ap length c.self.view_is)
