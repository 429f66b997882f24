use Rattle.std.proofs.Common.{◌≡◌, ◌∙◌, ◌+◌, [], get_or, map, take, sym, subst}
use Rattle.hierarchy.specs.private.Flags.{AreStarts, IsStart, place_above}
use Rattle.hierarchy.specs.Summary.{asked, reference_of, text_among}
use Rattle.hierarchy.proofs.Guarding.{starts_next}
use Rattle.hierarchy.proofs.TextPlaces.{thing_at}
use Rattle.hierarchy.proofs.starts.starts_of.Goals as goal

pub loop-reference-init : goal.loop-reference-init
loop-reference-init c = record {
  starts = subst (AreStarts c.args.places.now c.args.numbers.now c.args.class.now []) (sym c.in_ok-starts.ensures.items) tt;
  good = c.requires;
  given = c.in_ok-numbering.ensures.1 c.args.numbers.now;
  same = c.in_ok-numbering.ensures.0 ∙ c.deref-2.ensures.value;
}

pub loop-reference-preserved : goal.loop-reference-preserved
loop-reference-preserved c =
    let references = c.args.references.now in
    let places = c.args.places.now in
    let class = c.args.class.now in
    let xs = c.deref-reference-items.result.now in
    let same = c.deref-reference-items.ensures.value in
    let i = c.loop-reference.reference-index in
    let r = get_or xs i _ in
    let place : c.index-place.result.now ≡ place_above places class (text_among references.classes.items r.class) =
    thing_at (λ name o. o ≡ place_above places class name) c.deref.result.now c.deref-in-loop-reference.result.now references.classes.items c.in_ok-above.above.items r.class c.place_among.result
    c.index-place.result.now c.in_ok-above.ensures.each c.in_ok-above.ensures.long c.deref.ensures.value c.deref-in-loop-reference.ensures.value c.place_among.ensures.within c.place_among.ensures.same
    c.index-place.ensures in
    let start = subst (λ ts. IsStart places c.start_of.new.numbers class (asked ts (text_among references.classes.items r.class) r.places) c.in_ok-start.start) c.loop-reference.invariant.same
    (c.in_ok-start.ensures.start places class (text_among references.classes.items r.class) place) in
    let had = subst (λ ms. AreStarts places c.loop-reference.numbers class (map (reference_of references) (take i ms)) c.loop-reference.starts.items) (sym same) c.loop-reference.invariant.starts in
    record {
      starts = subst (λ ms. AreStarts places c.start_of.new.numbers class (map (reference_of references) (take (i + 1) ms)) c.push.new.self.items) same
          (starts_next (reference_of references) places c.loop-reference.numbers c.start_of.new.numbers class xs i _ c.loop-reference.starts.items c.push.new.self.items c.in_ok-start.start c.in_ok-start.ensures.kept
          c.loop-reference-test.true had start c.in_ok-push.ensures.items);
      good = c.in_ok-start.ensures.good;
      given = c.in_ok-start.ensures.given;
      same = c.in_ok-start.ensures.same ∙ c.loop-reference.invariant.same;
    }
