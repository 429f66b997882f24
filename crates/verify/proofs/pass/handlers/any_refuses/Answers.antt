use Rattle.std.proofs.Common.{◌≡◌, ◌∙◌, ◌+◌, ◌||◌, ℕ, Option, false, drop, get_or, refl, sym, ap, subst, arith}
use Rattle.std.specs.List.{list_any}
use Rattle.std.specs.Prelude.{IfSome}
use Rattle.std.proofs.lemmas.List.{drop_more, drop_all}
use Rattle.frames.specs.Conditions.{is_no}
use Rattle.method_frames.specs.NumberedFrames.{NumberedFrames}
use Rattle.verify.specs.declared.pass.handlers.Handler.{Handler}
use Rattle.verify.specs.private.pass.Following.{IsOfEntry, handler_answer, refuses}
use Rattle.verify.proofs.numbered.Following.{no_handler}
use Rattle.verify.proofs.numbered.Refusing.{asked_free, asked_refused, passed_free}
use Rattle.verify.proofs.pass.handlers.any_refuses.Goals as goal
use Rattle.verify.proofs.pass.handlers.any_refuses.Goals.{then-is_asked+else-is_refused, else-is_asked}

pub is_refused-requires : goal.is_refused-requires
is_refused-requires g c =
    subst (λ (x : NumberedFrames). IsOfEntry x (get_or c.args.handlers.now c.loop-i.i no_handler)) (sym c.loop-i.invariant.same) (c.requires c.loop-i.i no_handler c.loop-i-test.true)

pub returns-then-is_refused-clause-refused : goal.returns-then-is_refused-clause-refused
returns-then-is_refused-clause-refused g c =
    let x = c.args.frames.now in
    let hs = c.args.handlers.now in
    let i = c.loop-i.i in
    let h = get_or hs i no_handler in
    let any = list_any (refuses x c.args.at) in
    let refused = sym (c.is_refused.ensures.refused ∙ ap (λ (y : NumberedFrames). is_no (handler_answer y h)) c.loop-i.invariant.same) ∙ c.if-is_refused.true in
    sym (c.loop-i.invariant.left ∙ ap any (drop_more hs i no_handler c.loop-i-test.true)
    ∙ ap (λ b. b || any (drop (i + 1) hs)) (asked_refused x c.args.at h (c.if-is_asked.ensures.asked refl) refused))

-- one more does not refuse
record Goes (x : NumberedFrames) (at : ℕ) (h : Handler) (now : NumberedFrames) (asked : Option Handler) : Type 0 where
  same : now ≡ x
  free : refuses x at h ≡ false
  last : IfSome asked (λ (one : Handler). is_no (handler_answer x one) ≡ false)

pub loop-i-preserved : goal.loop-i-preserved
loop-i-preserved g c =
    let x = c.args.frames.now in
    let at = c.args.at in
    let hs = c.args.handlers.now in
    let i = c.loop-i.i in
    let h = get_or hs i no_handler in
    let any = list_any (refuses x at) in
    let inv = c.loop-i.invariant in
    let goes : Goes x at h c.if-is_asked.frames c.if-is_asked.last = elim c.if-is_asked.branch [
      | then-is_asked+else-is_refused w ↦
          (let free = sym (w.is_refused.ensures.refused ∙ ap (λ (y : NumberedFrames). is_no (handler_answer y h)) inv.same) ∙ w.if-is_refused.false in
          record {
            same = w.frames-is ∙ w.is_refused.ensures.same ∙ inv.same;
            free = asked_free x at h (w.if-is_asked.ensures.asked refl) free;
            last = subst (λ (o : Option Handler). IfSome o (λ (one : Handler). is_no (handler_answer x one) ≡ false)) (sym w.last-is) free;
          })
      | else-is_asked w ↦ record {
        same = w.frames-is ∙ inv.same;
        free = passed_free x at h c.loop-i.last inv.last (w.if-is_asked.ensures.passed refl);
        last = subst (λ (o : Option Handler). IfSome o (λ (one : Handler). is_no (handler_answer x one) ≡ false)) (sym w.last-is) inv.last;
      }
    ] in
    record {
      same = goes.same;
      left = inv.left ∙ ap any (drop_more hs i no_handler c.loop-i-test.true) ∙ ap (λ b. b || any (drop (i + 1) hs)) goes.free;
      last = goes.last;
    }

pub returns-clause-refused : goal.returns-clause-refused
returns-clause-refused g c =
    let any = list_any (refuses c.args.frames.now c.args.at) in
    sym (c.loop-i.invariant.left ∙ ap any (drop_all c.loop-i.i c.args.handlers.now (omega (arith, c.loop-i-test.false))))
