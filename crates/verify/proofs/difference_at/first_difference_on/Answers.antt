use Rattle.std.proofs.Common.{◌∙◌, ℕ, option_map, ap, sym, subst}
use Rattle.std.proofs.lemmas.List.Elements.{All-contains}
use Rattle.method_frames.specs.NumberedFrames.{NumberedFrames}
use Rattle.verify.specs.DifferencesAt.{DifferenceAtFact}
use Rattle.verify.specs.declared.difference_at.Way.{Way}
use Rattle.verify.specs.private.Ways.{IsFirstUnlike, IsWay, way_difference, with_places}
use Rattle.verify.proofs.Ways.{each_way, first_is_none, first_is_some}
use Rattle.verify.proofs.difference_at.first_difference_on.Goals as goal

pub way_difference-requires : goal.way_difference-requires
way_difference-requires g c =
    let x = c.args.frames.now in
    let all = with_places 0 c.args.ways.now in
    let found = subst (IsFirstUnlike c.args.sought x all) c.in-Some.is c.in_ok-place.ensures.found in
    subst (λ (y : NumberedFrames). IsWay y c.in-Some.way) (sym c.first_unlike.ensures.same)
    (All-contains (λ (w : ℕ × Way). IsWay x w.1) all (c.in-Some.place, c.in-Some.way) (each_way x 0 c.args.ways.now c.requires) found.0)

pub returns-in_ok-difference-in-Some-clause-found : goal.returns-in_ok-difference-in-Some-clause-found
returns-in_ok-difference-in-Some-clause-found g c =
    let s = c.args.sought in
    let x = c.args.frames.now in
    let found = subst (IsFirstUnlike s x (with_places 0 c.args.ways.now)) c.in-Some.is c.in_ok-place.ensures.found in
    let told = c.in_ok-difference-in-Some.ensures ∙ ap (λ (y : NumberedFrames). way_difference s y c.in-Some.way) c.first_unlike.ensures.same in
    c.numbered.ensures ∙ ap (option_map (λ (d : DifferenceAtFact). (c.in-Some.place, d))) told ∙ sym (first_is_some s x c.args.ways.now (c.in-Some.place, c.in-Some.way) found)

pub returns-in-None-clause-found : goal.returns-in-None-clause-found
returns-in-None-clause-found g c =
    let s = c.args.sought in
    let x = c.args.frames.now in
    sym (first_is_none s x c.args.ways.now (subst (IsFirstUnlike s x (with_places 0 c.args.ways.now)) c.in-None.is c.in_ok-place.ensures.found))
