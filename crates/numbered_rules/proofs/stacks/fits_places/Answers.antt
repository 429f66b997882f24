use Rattle.std.proofs.Common.{◌∙◌, ◌&&◌, ◌+◌, None, drop, sym, ap}
use Rattle.rules.specs.After.{fits_places}
use Rattle.numbered_rules.specs.RunningFrame.{held}
use Rattle.numbered_rules.proofs.Moving.{place_none, place_item, typed_item}
use Rattle.numbered_rules.proofs.stacks.fits_places.Goals as goal

pub returns-in-None : goal.returns-in-None
returns-in-None g c =
    let x = c.args.frames.now in
    sym (c.loop-above.invariant ∙ place_none c.args.places.now (held x).stack c.loop-above.above c.loop-above-test.true (typed_item x.types x.running.stack c.loop-above.above None c.in-None.ensures.item))

pub returns-then-not-fits_place : goal.returns-then-not-fits_place
returns-then-not-fits_place g c =
    let x = c.args.frames.now in
    let ps = c.args.places.now in
    let i = c.loop-above.above in
    sym (place_item x.types ps x.running.stack i _ c.in-Some.number c.fits_place.result c.loop-above-test.true c.in-Some.ensures.item c.in-Some.ensures.given c.fits_place.ensures c.loop-above.invariant
    ∙ ap (λ b. b && fits_places (drop (i + 1) ps) (drop (i + 1) (held x).stack)) c.if-not-fits_place.true)

pub loop-above-preserved : goal.loop-above-preserved
loop-above-preserved g c =
    let x = c.args.frames.now in
    let ps = c.args.places.now in
    let i = c.loop-above.above in
    place_item x.types ps x.running.stack i _ c.in-Some.number c.fits_place.result c.loop-above-test.true c.in-Some.ensures.item c.in-Some.ensures.given c.fits_place.ensures c.loop-above.invariant
    ∙ ap (λ b. b && fits_places (drop (i + 1) ps) (drop (i + 1) (held x).stack)) c.if-not-fits_place.false
