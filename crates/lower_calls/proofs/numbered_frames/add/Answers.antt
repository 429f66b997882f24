use Rattle.std.proofs.Common.{◌≡◌, ap, subst, sym}
use Rattle.type_numbers.specs.Numbers.{IsGiven}
use Rattle.lower_calls.proofs.numbered_frames.add.Goals as goal

pub push-requires : goal.push-requires
push-requires g c =
    let same : c.put.new.frames.types ≡ c.args.frames.now.types = ap (λ f. f.types) c.put.ensures.rest in
    subst (λ s. IsGiven s c.args.number) (sym same) c.requires
