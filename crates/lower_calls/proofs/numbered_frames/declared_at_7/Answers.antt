use Rattle.std.proofs.Common.{◌≡◌, ◌∙◌, ap, subst, sym}
use Rattle.type_numbers.specs.Numbers.{IsGiven}
use Rattle.lower_calls.proofs.numbered_frames.declared_at_7.Goals as goal

pub push-requires : goal.push-requires
push-requires g c =
    let same : c.put.new.frames.types ≡ c.args.types.now = ap (λ f. f.types) c.put.ensures.rest ∙ ap (λ f. f.types) c.in_ok-frames.ensures in
    subst (λ s. IsGiven s c.args.n.ours) (sym same) c.requires.ours

pub push-requires-2 : goal.push-requires-2
push-requires-2 g c =
    let same : c.push.new.self.types ≡ c.args.types.now =
    ap (λ f. f.types) c.in_ok-push.ensures.ok ∙ ap (λ f. f.types) c.put.ensures.rest ∙ ap (λ f. f.types) c.in_ok-frames.ensures in
    subst (λ s. IsGiven s c.args.n.int) (sym same) c.requires.int
