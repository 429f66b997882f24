use Rattle.std.proofs.Common.{◌≡◌, ◌∙◌, ℕ, ◌+◌, true, Option, None, Result, Ok, Err, drop, get_or, refl, sym, ap, subst, arith}
use Rattle.std.specs.Prelude.{IfSome}
use Rattle.std.proofs.lemmas.List.{drop_all}
use Rattle.std.proofs.lemmas.Result.{err_from_is_err_and}
use Rattle.classfile.specs.Methods.{ExceptionEntry}
use Rattle.hierarchy.specs.Answer.{yes}
use Rattle.frames.specs.Conditions.{least}
use Rattle.method_frames.specs.NumberedFrames.{NumberedFrames}
use Rattle.rules.specs.Outcomes.{Judges}
use Rattle.rules.specs.declared.reason.Reason.{Reason}
use Rattle.verify.specs.Verdict.{answer_conditions}
use Rattle.verify.specs.declared.pass.handlers.Handler.{Handler}
use Rattle.verify.specs.private.pass.Following.{IsHandler, IsOfEntry, handler_answer}
use Rattle.verify.proofs.InTurn.{goes_on, stops, ends}
use Rattle.verify.proofs.numbered.Following.{no_handler, has_entry, as_many, judged_by}
use Rattle.verify.proofs.numbered.Refusing.{one, all, in_turn, passed_yes, passed_conditions, asked_conditions}
use Rattle.verify.proofs.pass.handlers.check_in_turn.Goals as goal
use Rattle.verify.proofs.pass.handlers.check_in_turn.Goals.{then-is_asked+in_ok-check_handler, else-is_asked}

pub check_handler-requires : goal.check_handler-requires
check_handler-requires g c =
    let x = c.args.frames.now in
    let one = has_entry x.types x.declared c.requires.0 c.args.table.now c.loop-i.i no_handler c.requires.1 c.loop-i-test.true in
    (one.entry, subst (λ (z : NumberedFrames). IsHandler z.types z.declared one.entry (get_or c.args.table.now c.loop-i.i no_handler)) (sym c.loop-i.invariant.same) one.is)

-- one more was judged
record Goes (x : NumberedFrames) (at : ℕ) (h : Handler) (now : NumberedFrames) (asked : Option Handler) : Type 0 where
  same : now ≡ x
  fine : (e : ExceptionEntry) → IsHandler x.types x.declared e h → least (one x at e) ≡ None
  last : IfSome asked (λ (one : Handler). handler_answer x one ≡ yes)

pub loop-i-preserved : goal.loop-i-preserved
loop-i-preserved g c =
    let x = c.args.frames.now in
    let at = c.args.at in
    let i = c.loop-i.i in
    let h = get_or c.args.table.now i no_handler in
    let inv = c.loop-i.invariant in
    let goes : Goes x at h c.if-is_asked.frames c.if-is_asked.last = elim c.if-is_asked.branch [
      | then-is_asked+in_ok-check_handler w ↦
          (let judged = subst (λ (y : NumberedFrames). Judges (answer_conditions 73 (handler_answer y h)) (Ok tt)) inv.same w.in_ok-check_handler.ensures.judged in
          let taken = passed_yes (handler_answer x h) judged.outcome in
          record {
            same = w.frames-is ∙ w.in_ok-check_handler.ensures.same ∙ inv.same;
            fine = λ e is. asked_conditions x at h e is taken;
            last = subst (λ (o : Option Handler). IfSome o (λ (one : Handler). handler_answer x one ≡ yes)) (sym w.last-is) taken;
          })
      | else-is_asked w ↦ record {
        same = w.frames-is ∙ inv.same;
        fine = λ e is. passed_conditions x at h e is c.loop-i.last inv.last (w.if-is_asked.ensures.passed refl);
        last = subst (λ (o : Option Handler). IfSome o (λ (one : Handler). handler_answer x one ≡ yes)) (sym w.last-is) inv.last;
      }
    ] in
    record {
      same = goes.same;
      left = λ es a r rest.
          let here = has_entry x.types x.declared es c.args.table.now i no_handler a c.loop-i-test.true in
          let e = here.entry in
          inv.left es a r
          (subst (λ left. in_turn x at left r) (sym here.here) (goes_on (one x at) (all x at) refl (λ y ys. refl) e (drop (i + 1) es) (goes.fine e here.is) r rest));
      last = goes.last;
    }

pub returns-in_err-check_handler-clause-judged : goal.returns-in_err-check_handler-clause-judged
returns-in_err-check_handler-clause-judged g c = λ es a.
    let x = c.args.frames.now in
    let at = c.args.at in
    let i = c.loop-i.i in
    let h = get_or c.args.table.now i no_handler in
    let p = err_from_is_err_and c.from_residual.result c.from_residual.ensures.1 in
    let here = has_entry x.types x.declared es c.args.table.now i no_handler a c.loop-i-test.true in
    let e = here.entry in
    let why = c.in_err-check_handler.field-0.0 in
    let judged = subst (λ (y : NumberedFrames). Judges (answer_conditions 73 (handler_answer y h)) (Err why)) c.loop-i.invariant.same c.in_err-check_handler.ensures.judged in
    let stopped = judged_by x at e h here.is true (sym (c.if-is_asked.ensures.asked refl)) (Err why) judged in
    rw (p.1, p.2) (c.loop-i.invariant.left es a (Err why)
    (subst (λ left. in_turn x at left (Err why)) (sym here.here) (stops (one x at) (all x at) refl (λ y ys. refl) e (drop (i + 1) es) why stopped)))

pub returns-clause-judged : goal.returns-clause-judged
returns-clause-judged g c = λ es a.
    let x = c.args.frames.now in
    let many = as_many x.types x.declared es c.args.table.now a in
    c.loop-i.invariant.left es a (Ok tt)
    (subst (λ left. in_turn x c.args.at left (Ok tt)) (sym (drop_all c.loop-i.i es (omega (arith, many, c.loop-i-test.false)))) (ends (one x c.args.at) (all x c.args.at) refl (λ y ys. refl) tt))
