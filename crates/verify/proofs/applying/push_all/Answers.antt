use Rattle.std.proofs.Common.{◌∙◌, ◌∷◌, ◌++◌, ℕ, List, get_or, reverse, sym, ap, subst, arith}
use Rattle.std.proofs.lemmas.List.{take_all}
use Rattle.method_frames.specs.NumberedFrames.{NumberedFrames}
use Rattle.type_numbers.specs.Numbers.{IsGiven}
use Rattle.verify.proofs.Applied.{one_pushed}
use Rattle.verify.proofs.applying.push_all.Goals as goal

pub push-requires : goal.push-requires
push-requires g c =
    let i = c.loop-i.i in
    subst (λ s. IsGiven s (get_or c.args.numbers.now i 0)) (sym (ap (λ (y : NumberedFrames). y.types) c.loop-i.invariant)) (c.requires i (omega (arith, c.loop-i-test.true)))

pub loop-i-preserved : goal.loop-i-preserved
loop-i-preserved g c =
    let start = c.args.frames.now in
    let xs = c.args.numbers.now in
    let i = c.loop-i.i in
    let n = get_or xs i 0 in
    c.in_ok-push.ensures.ok ∙ ap (λ (y : NumberedFrames). record y { running = record y.running { stack = n ∷ y.running.stack } }) c.loop-i.invariant
    ∙ ap (λ (ns : List ℕ). record start { running = record start.running { stack = ns } }) (one_pushed xs start.running.stack i (omega (arith, c.loop-i-test.true)))

pub returns : goal.returns
returns g c =
    let start = c.args.frames.now in
    let xs = c.args.numbers.now in
    c.loop-i.invariant ∙ ap (λ (ns : List ℕ). record start { running = record start.running { stack = reverse ns ++ start.running.stack } }) (take_all c.loop-i.i xs (omega arith))
