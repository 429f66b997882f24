use Rattle.std.proofs.Common.{◌≡◌, ap, subst, sym}
use Rattle.type_numbers.specs.Numbers.{IsGiven}
use Rattle.lower_calls.proofs.numbered_frames.fill.Goals.{then-local-place, else-local-place}
use Rattle.lower_calls.proofs.numbered_frames.fill.Goals as goal

pub put-requires : goal.put-requires
put-requires g c =
    let same : c.loop-local.frames.types ≡ c.args.frames.now.types = ap (λ f. f.types) c.loop-local.invariant.rest in
    subst (λ s. IsGiven s c.if-local-place.number) (sym same) (elim c.if-local-place.branch [
      | then-local-place w ↦ subst (IsGiven c.args.frames.now.types) (sym w.number-is) c.requires.other
      | else-local-place w ↦ subst (IsGiven c.args.frames.now.types) (sym w.number-is) c.requires.int
    ])
