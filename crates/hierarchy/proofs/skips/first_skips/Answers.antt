use Rattle.std.proofs.Common.{◌≡◌, ◌+◌, length, arith}
use Rattle.std.proofs.lemmas.List.{length-append}
use Rattle.hierarchy.specs.private.Skips.{IsSkip}
use Rattle.hierarchy.proofs.Doubling.{all_and_one}
use Rattle.hierarchy.proofs.skips.first_skips.Goals as goal

pub loop-place-preserved : goal.loop-place-preserved
loop-place-preserved g c =
    let old = c.loop-place.skips.items in
    let new = c.push.new.self.items in
    let is = c.in_ok-push.ensures.items in
    let long = c.loop-place.invariant.0 in
    let more : length new ≡ c.loop-place.place + 1 = grind (arith, length-append) in
    (more, all_and_one (λ i skip. IsSkip c.args.index.now 1 i skip) old new c.first_skip.result c.loop-place.place is long c.first_skip.ensures c.loop-place.invariant.1)
