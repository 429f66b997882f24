use Rattle.std.proofs.Common.{◌≡◌, ◌∙◌, ℕ, is_some, get_or, Option, Some, None, ap, sym, subst, refl, arith}
use Rattle.std.specs.Prelude.{All, IfSome}
use Rattle.std.proofs.lemmas.List.{take_all}
use Rattle.std.proofs.lemmas.List.Elements.{All-more}
use Rattle.frames.specs.declared.difference.Sought.{Sought}
use Rattle.method_frames.specs.NumberedFrames.{NumberedFrames}
use Rattle.verify.specs.declared.difference_at.Way.{Way}
use Rattle.verify.specs.private.Ways.{IsPassed, IsAlikeBefore, way_difference}
use Rattle.verify.proofs.Ways.{no_way, none_there, passed_alike}
use Rattle.verify.proofs.difference_at.unlike_before.Goals as goal
use Rattle.verify.proofs.difference_at.unlike_before.Goals.{then-is_asked+in_ok-is_unlike+else-branch, else-is_asked}

-- one more was gone through
record Goes (s : Sought) (x : NumberedFrames) (end : ℕ) (here : ℕ × Way) (now : NumberedFrames) (asked : Option Way) : Type 0 where
  same : now ≡ x
  alike : IsAlikeBefore s x end here
  last : IfSome asked (λ (w : Way). way_difference s x w ≡ None)

pub loop-i-preserved : goal.loop-i-preserved
loop-i-preserved g c =
    let s = c.args.sought in
    let x = c.args.frames.now in
    let ways = c.args.ways.now in
    let i = c.loop-i.i in
    let here = get_or ways i no_way in
    let inv = c.loop-i.invariant in
    let goes : Goes s x c.args.end here c.if-is_asked.frames c.if-is_asked.last = elim c.if-is_asked.branch [
      | then-is_asked+in_ok-is_unlike+else-branch w ↦
          (let none = none_there (way_difference s x here.1) (ap (λ (y : NumberedFrames). is_some (way_difference s y here.1)) (sym inv.same) ∙ sym w.in_ok-is_unlike.ensures.unlike ∙ w.if-branch.false) in
          record {
            same = w.frames-is ∙ w.in_ok-is_unlike.ensures.same ∙ inv.same;
            alike = λ lt. none;
            last = subst (λ (o : Option Way). IfSome o (λ (w : Way). way_difference s x w ≡ None)) (sym w.last-is) none;
          })
      | else-is_asked w ↦ record {
        same = w.frames-is ∙ inv.same;
        alike = passed_alike s x c.args.alike c.args.end c.loop-i.last here inv.last (c.requires.alike i no_way c.loop-i-test.true) (w.if-is_asked.ensures.passed refl);
        last = subst (λ (o : Option Way). IfSome o (λ (w : Way). way_difference s x w ≡ None)) (sym w.last-is) inv.last;
      }
    ] in
    record { same = goes.same; alike = All-more (IsAlikeBefore s x c.args.end) ways i no_way c.loop-i-test.true inv.alike goes.alike; last = goes.last }

pub returns-clause-found : goal.returns-clause-found
returns-clause-found g c =
    subst (All (IsAlikeBefore c.args.sought c.args.frames.now c.args.end)) (take_all c.loop-i.i c.args.ways.now (omega (arith, c.loop-i-test.false))) c.loop-i.invariant.alike
