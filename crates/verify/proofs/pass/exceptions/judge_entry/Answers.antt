use Rattle.std.proofs.Common.{Ok, Err, pos, subst}
use Rattle.std.proofs.lemmas.Result.{err_from_is_err_and}
use Rattle.rules.specs.Bodies.{method_view}
use Rattle.rules.specs.Outcomes.{Judges}
use Rattle.verify.specs.Verdict.{answer_conditions}
use Rattle.verify.specs.private.pass.Finding.{IsFound}
use Rattle.verify.proofs.numbered.TableEntries.{refuses_misplaced, refuses_placed, takes_placed}
use Rattle.verify.proofs.pass.exceptions.judge_entry.Goals as goal

pub returns-in_default : goal.returns-in_default
returns-in_default g c = λ e is.
    let x = c.args.frames.now in
    refuses_misplaced x (method_view c.args.body.now.method.now) e (IsFound x.types x.declared (pos e.handler)) (c.in_default.ensures e is)

pub returns-in_err-check_answer : goal.returns-in_err-check_answer
returns-in_err-check_answer g c = λ e is.
    let x = c.args.frames.now in
    let m = method_view c.args.body.now.method.now in
    let p = err_from_is_err_and c.from_residual.result c.from_residual.ensures.1 in
    rw (p.1, p.2) (refuses_placed x m e (IsFound x.types x.declared (pos e.handler)) c.in-Some.frame _ (c.in-Some.ensures e is)
    (subst (λ o. Judges (answer_conditions 72 o) (Err c.in_err-check_answer.field-0.0)) (c.throwable_answer-answer.ensures e is) c.in_err-check_answer.ensures))

pub returns : goal.returns
returns g c = λ e is.
    let x = c.args.frames.now in
    let m = method_view c.args.body.now.method.now in
    takes_placed x m e c.in-Some.frame tt (c.in-Some.ensures e is)
    (subst (λ o. Judges (answer_conditions 72 o) (Ok tt)) (c.throwable_answer-answer.ensures e is) c.in_ok-check_answer.ensures)
