use Rattle.std.proofs.Common.{◌≡◌, ap, subst, sym}
use Rattle.type_numbers.specs.Numbers.{IsGiven}
use Rattle.lower_calls.proofs.numbered_frames.set.Goals as goal

pub stand-requires-clause-int : goal.stand-requires-clause-int
stand-requires-clause-int g c =
    let same : c.fill.new.frames.types ≡ c.args.frames.now.types = ap (λ f. f.types) c.fill.ensures.rest in
    subst (λ s. IsGiven s c.args.int) (sym same) c.requires.int

pub stand-requires-clause-other : goal.stand-requires-clause-other
stand-requires-clause-other g c =
    let same : c.fill.new.frames.types ≡ c.args.frames.now.types = ap (λ f. f.types) c.fill.ensures.rest in
    subst (λ s. IsGiven s c.args.other) (sym same) c.requires.other
