use Rattle.std.proofs.Common.{◌≡◌, ◌∙◌, ap, subst, sym}
use Rattle.type_numbers.specs.Numbers.{IsGiven}
use Rattle.lower_calls.proofs.numbered_frames.caught_at_5.Goals as goal

pub push-requires : goal.push-requires
push-requires g c =
    let same : c.put.new.frames.types ≡ c.args.types.now = ap (λ f. f.types) c.put.ensures.rest ∙ ap (λ f. f.types) c.in_ok-frames.ensures in
    subst (λ s. IsGiven s c.args.n.theirs) (sym same) c.requires.theirs
