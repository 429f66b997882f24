use Rattle.std.proofs.Common.{sym, subst, arith}
use Rattle.method_frames.specs.private.KnownRows.{AreGiven}
use Rattle.method_frames.proofs.StackGiven.{pushed_given}
use Rattle.method_frames.proofs.StackWriting.{read_more}
use Rattle.method_frames.proofs.stack_rows.read.Goals as goal

pub returns-in_err-push-clause-given : goal.returns-in_err-push-clause-given
returns-in_err-push-clause-given g c = subst (AreGiven c.args.rows.now.types) (sym c.in_err-push.ensures.err) c.loop-place.invariant.given

pub loop-place-preserved : goal.loop-place-preserved
loop-place-preserved g c =
    let rows = c.args.rows.now in
    record {
      given = subst (AreGiven rows.types) (sym c.in_ok-push.ensures.ok) (pushed_given rows.types c.loop-place.items c.get.result c.loop-place.invariant.given c.get.ensures.given);
      held = read_more rows.running c.loop-place.place c.get.result c.loop-place.items c.push.new.self (omega arith) c.loop-place.invariant.held c.get.ensures.number c.in_ok-push.ensures.ok;
    }
