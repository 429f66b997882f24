use Rattle.std.proofs.Common.{◌∙◌, ◌-◌, ◌/◌, ℕ, Some, None, refl, sym, subst, arith}
use Rattle.std.specs.Prelude.{All}
use Rattle.std.specs.List.Sorted.{IsPermutation}
use Rattle.std.proofs.lemmas.List.Sorted.{All-permutation}
use Rattle.method_frames.specs.NumberedFrames.{NumberedFrames}
use Rattle.verify.specs.declared.difference_at.Way.{Way}
use Rattle.verify.specs.private.Ways.{FindsUnlike, IsAlikeBefore, IsWay, with_places}
use Rattle.verify.proofs.Ways.{each_way, first_found, moved_found}
use Rattle.verify.proofs.difference_at.first_unlike.Goals as goal

pub unlike_before-requires-clause-ways : goal.unlike_before-requires-clause-ways
unlike_before-requires-clause-ways g c =
    let all = with_places 0 c.args.ways.now in
    let moved = subst (IsPermutation all) (sym c.deref.ensures.value) c.loop-alike.invariant.moved in
    subst (λ (x : NumberedFrames). All (λ (w : ℕ × Way). IsWay x w.1) c.deref.result.now) (sym c.loop-alike.invariant.same)
    (All-permutation (λ (w : ℕ × Way). IsWay c.args.frames.now w.1) all c.deref.result.now moved (each_way c.args.frames.now 0 c.args.ways.now c.requires))

pub unlike_before-requires-clause-alike : goal.unlike_before-requires-clause-alike
unlike_before-requires-clause-alike g c =
    let s = c.args.sought in
    let all = with_places 0 c.args.ways.now in
    let moved = subst (IsPermutation all) (sym c.deref.ensures.value) c.loop-alike.invariant.moved in
    subst (λ (x : NumberedFrames). All (IsAlikeBefore s x c.loop-alike.alike) c.deref.result.now) (sym c.loop-alike.invariant.same)
    (All-permutation (IsAlikeBefore s c.args.frames.now c.loop-alike.alike) all c.deref.result.now moved c.loop-alike.invariant.alike)

pub loop-alike-preserved-in-Some : goal.loop-alike-preserved-in-Some
loop-alike-preserved-in-Some g c =
    let s = c.args.sought in
    let all = with_places 0 c.args.ways.now in
    let middle = c.loop-alike.end - (c.loop-alike.end - c.loop-alike.alike) / 2 in
    let moved = subst (IsPermutation all) (sym c.deref.ensures.value) c.loop-alike.invariant.moved in
    let told = subst (λ (x : NumberedFrames). FindsUnlike s x middle c.deref.result.now c.in_ok-unlike.field-0) c.loop-alike.invariant.same c.in_ok-unlike.ensures.found in
    let found = moved_found s c.args.frames.now middle all c.deref.result.now moved (Some c.in-Some.unlike) (subst (FindsUnlike s c.args.frames.now middle c.deref.result.now) c.in-Some.is told) in
    record {
      same = c.unlike_before.ensures.same ∙ c.loop-alike.invariant.same;
      moved = c.loop-alike.invariant.moved;
      most = (let lt = found.1 in let most = c.loop-alike.invariant.most in omega (arith, lt, most));
      alike = c.loop-alike.invariant.alike;
      found = (found.0, found.2, refl);
    }

pub loop-alike-preserved : goal.loop-alike-preserved
loop-alike-preserved g c =
    let s = c.args.sought in
    let all = with_places 0 c.args.ways.now in
    let middle = c.loop-alike.end - (c.loop-alike.end - c.loop-alike.alike) / 2 in
    let moved = subst (IsPermutation all) (sym c.deref.ensures.value) c.loop-alike.invariant.moved in
    let told = subst (λ (x : NumberedFrames). FindsUnlike s x middle c.deref.result.now c.in_ok-unlike.field-0) c.loop-alike.invariant.same c.in_ok-unlike.ensures.found in
    record {
      same = c.unlike_before.ensures.same ∙ c.loop-alike.invariant.same;
      moved = c.loop-alike.invariant.moved;
      most = c.loop-alike.invariant.most;
      alike = moved_found s c.args.frames.now middle all c.deref.result.now moved None (subst (FindsUnlike s c.args.frames.now middle c.deref.result.now) c.in-None.is told);
      found = c.loop-alike.invariant.found;
    }

pub returns-clause-found : goal.returns-clause-found
returns-clause-found g c =
    first_found c.args.sought c.args.frames.now c.args.ways.now c.loop-alike.alike c.loop-alike.end c.loop-alike.first (omega (arith, c.loop-alike-test.false)) c.loop-alike.invariant.alike c.loop-alike.invariant.found
