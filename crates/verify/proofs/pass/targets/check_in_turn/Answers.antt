use Rattle.std.proofs.Common.{rules, ◌∙◌, SFits, w64, to_z, of_z, ℤ, Ok, Err, refl, subst, sym}
use Rattle.std.proofs.lemmas.Int.{to_z-of_z}
use Rattle.std.proofs.lemmas.Result.{err_from_is_err_and}
use Rattle.insn.specs.Branching.{targets_of}
use Rattle.method_frames.specs.NumberedFrames.{NumberedFrames}
use Rattle.rules.specs.Outcomes.{Judges}
use Rattle.verify.specs.private.Targets.{AreJudgedInTurn, all_targets, target_at}
use Rattle.verify.proofs.InTurn.{goes_on, stops, ends}
use Rattle.verify.proofs.pass.targets.check_in_turn.Goals as goal

pub loop-target-init : goal.loop-target-init
loop-target-init g c = record {
  same = refl;
  left = λ r so. subst (λ it. AreJudgedInTurn c.args.frames.now (targets_of it) r) c.into_iter-target-iterator.ensures.into_iter_gives so;
}

pub loop-target-preserved : goal.loop-target-preserved
loop-target-preserved g c =
    let x = c.args.frames.now in
    let t = c.in-Some.target in
    let fits : SFits w64 t = search rules in
    let judged = subst (λ (u : ℤ). Judges (target_at x u) (Ok tt)) (to_z-of_z w64 t fits) (subst (λ (y : NumberedFrames). Judges (target_at y (to_z w64 (of_z w64 t))) (Ok tt)) c.loop-target.invariant.same c.in_ok-check_target.ensures.judged) in
    record {
      same = c.in_ok-check_target.ensures.same ∙ c.loop-target.invariant.same;
      left = λ r so.
          c.loop-target.invariant.left r
          (subst (λ ts. AreJudgedInTurn x ts r) (sym c.in-Some.ensures.steps) (goes_on (target_at x) (all_targets x) refl (λ y ys. refl) t (targets_of c.next.new.self) judged.outcome r so));
    }

pub returns-in_err-check_target-clause-judged : goal.returns-in_err-check_target-clause-judged
returns-in_err-check_target-clause-judged g c =
    let x = c.args.frames.now in
    let t = c.in-Some.target in
    let why = c.in_err-check_target.field-0.0 in
    let p = err_from_is_err_and c.from_residual.result c.from_residual.ensures.1 in
    let fits : SFits w64 t = search rules in
    let judged = subst (λ (u : ℤ). Judges (target_at x u) (Err why)) (to_z-of_z w64 t fits) (subst (λ (y : NumberedFrames). Judges (target_at y (to_z w64 (of_z w64 t))) (Err why)) c.loop-target.invariant.same c.in_err-check_target.ensures.judged) in
    rw (p.1, p.2) (c.loop-target.invariant.left (Err why)
    (subst (λ ts. AreJudgedInTurn x ts (Err why)) (sym c.in-Some.ensures.steps) (stops (target_at x) (all_targets x) refl (λ y ys. refl) t (targets_of c.next.new.self) why judged)))

pub returns-clause-judged : goal.returns-clause-judged
returns-clause-judged g c =
    let x = c.args.frames.now in
    c.loop-target.invariant.left (Ok tt) (subst (λ ts. AreJudgedInTurn x ts (Ok tt)) (sym c.in-None.ensures.steps.0) (ends (target_at x) (all_targets x) refl (λ y ys. refl) tt))
