use Rattle.std.proofs.Common.{◌≡◌, ◌∙◌, ◌+◌, ◌-◌, ◌∷◌, ◌<◌, drop, length, get_or, refl, arith, ap, sym, subst}
use Rattle.std.proofs.lemmas.List.{get_or_read}
use Rattle.blocks.specs.declared.pending.Pair.{Pair}
use Rattle.blocks.specs.private.Pending.{ShowsEarlier, no_pair}
use Rattle.blocks.proofs.Pendings.{earlier_more, nothing_behind, next_behind}
use Rattle.blocks.proofs.pending.Pending.place_of.Goals as goal

pub loop-place-init : goal.loop-place-init
loop-place-init c =
    let ps = c.args.self.now.pairs in
    let e = c.len-place.ensures in
    record { within = omega (arith, e, ps.ok); earlier = nothing_behind ps.items c.args.pair c.len-place.result (omega (arith, e, ps.ok)) }

pub loop-place-preserved : goal.loop-place-preserved
loop-place-preserved c =
    let ps = c.args.self.now.pairs.items in
    let p = c.args.pair in
    let q = c.index.result.now in
    let place = c.loop-place.place in
    let at = place - 1 in
    let some = c.loop-place-test.true in
    let within = c.loop-place.invariant.within in
    let lt : at < length ps = omega (arith, some, within) in
    let is : q ≡ get_or ps at no_pair = get_or_read ps at q lt c.index.ensures no_pair in
    let behind : drop (at + 1) ps ≡ drop place ps = ap (λ k. drop k ps) (let e : at + 1 ≡ place = omega (arith, some) in e) in
    let all : drop at ps ≡ q ∷ drop place ps =
    next_behind ps at lt ∙ ap (λ qs. get_or ps at no_pair ∷ qs) behind ∙ ap (λ (r : Pair). r ∷ drop place ps) (sym is) in
    record {
      within = omega (arith, within);
      earlier = subst (ShowsEarlier p) (sym all) (earlier_more p q (drop place ps) (c.if-goes_before.ensures refl) c.loop-place.invariant.earlier);
    }
