use Rattle.std.proofs.Common.{◌∙◌, ◌<◌, ℕ, Err, length, refl, sym, subst, inr}
use Rattle.std.specs.List.Sorted.{IsPermutation}
use Rattle.std.proofs.lemmas.List.Sorted.{All-permutation, list_any-IsPermutation}
use Rattle.insn.specs.Branching.{targets_of}
use Rattle.method_frames.specs.NumberedFrames.{NumberedFrames}
use Rattle.rules.specs.Outcomes.{Judges}
use Rattle.rules.specs.declared.reason.Reason.TheVariants.{NotAssignableAtTarget}
use Rattle.verify.specs.private.Targets.{AreFound, AreJudgedInTurn, FindsAll, all_targets, refuses, target_at}
use Rattle.verify.proofs.InTurn.{judged_free}
use Rattle.verify.proofs.numbered.Targets.{refused, free, each_within}
use Rattle.verify.proofs.pass.targets.check_all.Goals as goal

pub any_refuses-requires : goal.any_refuses-requires
any_refuses-requires g c =
    let now = c.check_in_turn.new.frames in
    let places = c.in-Some.declared.items in
    let moved = subst (IsPermutation places) (sym c.deref.ensures.value) c.in_ok-sort.ensures.permutation in
    let found : AreFound now (targets_of c.args.targets) places = subst (FindsAll now (targets_of c.args.targets)) c.in-Some.is c.in_ok-declared.ensures in
    All-permutation (λ (frame : ℕ). frame < length now.declared) places c.deref.result.now moved (each_within now (targets_of c.args.targets) places found)

pub returns-then-branch-clause-judged : goal.returns-then-branch-clause-judged
returns-then-branch-clause-judged g c =
    let now = c.check_in_turn.new.frames in
    let ts = targets_of c.args.targets in
    let places = c.in-Some.declared.items in
    let moved = subst (IsPermutation places) (sym c.deref.ensures.value) c.in_ok-sort.ensures.permutation in
    let found : AreFound now ts places = subst (FindsAll now ts) c.in-Some.is c.in_ok-declared.ensures in
    let any = list_any-IsPermutation (refuses now) places c.deref.result.now moved ∙ sym c.in_ok-any_refuses.ensures.refused ∙ c.if-branch.true in
    subst (λ (x : NumberedFrames). Judges (all_targets x ts) (Err NotAssignableAtTarget)) c.check_in_turn.ensures.same (record { outcome = inr (refused now ts places found any) })

pub returns-clause-judged : goal.returns-clause-judged
returns-clause-judged g c =
    let now = c.check_in_turn.new.frames in
    let ts = targets_of c.args.targets in
    let first = Err c.in-Err.first in
    let places = c.in-Some.declared.items in
    let moved = subst (IsPermutation places) (sym c.deref.ensures.value) c.in_ok-sort.ensures.permutation in
    let found : AreFound now ts places = subst (FindsAll now ts) c.in-Some.is c.in_ok-declared.ensures in
    let none = list_any-IsPermutation (refuses now) places c.deref.result.now moved ∙ sym c.in_ok-any_refuses.ensures.refused ∙ c.if-branch.false in
    let judged = subst (λ (x : NumberedFrames). AreJudgedInTurn x ts first) (sym c.check_in_turn.ensures.same) c.in-Err.ensures.judged in
    subst (λ (x : NumberedFrames). Judges (all_targets x ts) first) c.check_in_turn.ensures.same
    (judged_free (target_at now) (all_targets now) refl (λ y ys. refl) ts first judged (free now ts places found none))
