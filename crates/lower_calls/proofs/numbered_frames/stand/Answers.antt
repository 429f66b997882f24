use Rattle.std.proofs.Common.{◌≡◌, ap, subst, sym}
use Rattle.type_numbers.specs.Numbers.{IsGiven}
use Rattle.lower_calls.proofs.numbered_frames.stand.Goals.{then-item-place, else-item-place}
use Rattle.lower_calls.proofs.numbered_frames.stand.Goals as goal

pub push-requires : goal.push-requires
push-requires g c =
    let same : c.loop-item.frames.types ≡ c.clear_stack.new.self.types = ap (λ f. f.types) c.loop-item.invariant.rest in
    let old : c.clear_stack.new.self.types ≡ c.args.frames.now.types = ap (λ f. f.types) c.clear_stack.ensures in
    subst (λ s. IsGiven s c.if-item-place.number) (sym same) (subst (λ s. IsGiven s c.if-item-place.number) (sym old) (elim c.if-item-place.branch [
      | then-item-place w ↦ subst (IsGiven c.args.frames.now.types) (sym w.number-is) c.requires.other
      | else-item-place w ↦ subst (IsGiven c.args.frames.now.types) (sym w.number-is) c.requires.int
    ]))
