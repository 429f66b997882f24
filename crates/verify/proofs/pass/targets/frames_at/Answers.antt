use Rattle.std.proofs.Common.{rules, ◌≡◌, ◌∙◌, ◌++◌, ◌∷◌, [], SFits, w64, ℕ, ℤ, List, None, subst, sym, ap}
use Rattle.std.proofs.lemmas.Int.{to_z-of_z}
use Rattle.std.proofs.lemmas.List.{append-nil, append_assoc}
use Rattle.insn.specs.Branching.{targets_of}
use Rattle.frames.specs.Conditions.{least}
use Rattle.method_frames.specs.MapFrames.{frames_by}
use Rattle.verify.specs.Verdict.{declared_at}
use Rattle.verify.specs.private.Targets.{AreFound, all_targets}
use Rattle.verify.specs.private.pass.Finding.{IsFound}
use Rattle.verify.proofs.numbered.Targets.{lacks_here, lacks_later}
use Rattle.verify.proofs.pass.targets.frames_at.Goals as goal

pub loop-target-init : goal.loop-target-init
loop-target-init g c =
    let x = c.args.frames.now in
    record {
      none = λ e. ap (λ it. least (all_targets x (targets_of it))) (sym c.into_iter-target-iterator.ensures.into_iter_gives) ∙ e;
      found = λ more a.
          subst (λ (xs : List ℕ). AreFound x (targets_of c.args.targets) (xs ++ more)) (sym c.new-found.ensures.items)
          (subst (λ it. AreFound x (targets_of it) more) c.into_iter-target-iterator.ensures.into_iter_gives a);
    }

pub returns-in_default : goal.returns-in_default
returns-in_default g c =
    let x = c.args.frames.now in
    let t = c.in-Some.target in
    let fits : SFits w64 t = search rules in
    let none = subst (λ (u : ℤ). declared_at (frames_by x.types x.declared) u ≡ None) (to_z-of_z w64 t fits) c.in_default.ensures in
    c.loop-target.invariant.none (ap (λ ts. least (all_targets x ts)) c.in-Some.ensures.steps ∙ lacks_here x t (targets_of c.next.new.self) none)

pub loop-target-preserved : goal.loop-target-preserved
loop-target-preserved g c =
    let x = c.args.frames.now in
    let t = c.in-Some.target in
    let all = targets_of c.args.targets in
    let frame = c.in-Some-declared_at.frame in
    let before = c.loop-target.found.items in
    let fits : SFits w64 t = search rules in
    let found : IsFound x.types x.declared t frame = subst (λ (u : ℤ). IsFound x.types x.declared u frame) (to_z-of_z w64 t fits) c.in-Some-declared_at.ensures in
    record {
      none = λ e. c.loop-target.invariant.none (ap (λ ts. least (all_targets x ts)) c.in-Some.ensures.steps ∙ lacks_later x t (targets_of c.next.new.self) e);
      found = λ more a.
          subst (AreFound x all) (sym (ap (λ (xs : List ℕ). xs ++ more) c.in_ok-push.ensures.items ∙ append_assoc before (frame ∷ []) more))
          (c.loop-target.invariant.found (frame ∷ more) (subst (λ ts. AreFound x ts (frame ∷ more)) (sym c.in-Some.ensures.steps) (found, a)));
    }

pub returns : goal.returns
returns g c =
    let x = c.args.frames.now in
    let none : AreFound x (targets_of c.loop-target.target-iterator) [] = subst (λ ts. AreFound x ts []) (sym c.in-None.ensures.steps.0) tt in
    subst (AreFound x (targets_of c.args.targets)) (append-nil c.loop-target.found.items) (c.loop-target.invariant.found [] none)
