use Rattle.std.proofs.Common.{◌≡◌, ◌∙◌, ap, subst, sym}
use Rattle.type_numbers.specs.Numbers.{IsGiven}
use Rattle.lower_calls.proofs.numbered_frames.is_answered.Goals as goal

pub set-requires-2-clause-int : goal.set-requires-2-clause-int
set-requires-2-clause-int g c =
    let same : c.declare.new.self.types ≡ c.args.types.now =
    ap (λ f. f.types) c.in_ok-declared.ensures.ok ∙ ap (λ f. f.types) c.set.ensures.rest ∙ ap (λ f. f.types) c.in_ok-frames.ensures in
    subst (λ s. IsGiven s c.args.n.int) (sym same) c.requires.int

pub set-requires-2-clause-other : goal.set-requires-2-clause-other
set-requires-2-clause-other g c =
    let same : c.declare.new.self.types ≡ c.args.types.now =
    ap (λ f. f.types) c.in_ok-declared.ensures.ok ∙ ap (λ f. f.types) c.set.ensures.rest ∙ ap (λ f. f.types) c.in_ok-frames.ensures in
    subst (λ s. IsGiven s c.args.n.ours) (sym same) c.requires.ours
