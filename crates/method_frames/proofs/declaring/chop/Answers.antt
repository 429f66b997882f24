use Rattle.std.proofs.Common.{subst, sym, ◌∙◌, arith}
use Rattle.method_frames.specs.MapFrames.{IsLaidOut}
use Rattle.method_frames.proofs.Given.{top_given}
use Rattle.method_frames.proofs.LayingOut.{popped_off, rewritten_local}
use Rattle.method_frames.proofs.declaring.chop.Goals as goal

pub set_local-requires-clause-place : goal.set_local-requires-clause-place
set_local-requires-clause-place g c =
    let x = c.loop-locals.frames in
    (popped_off x c.units.result c.args.left c.loop-locals.locals c.pop.new.self c.pop.result c.pop.ensures (omega (arith, c.loop-locals-test.true, c.count.ensures)) (c.units.ensures x.types) c.loop-locals.invariant.laid).place

pub set_local-requires-clause-given : goal.set_local-requires-clause-given
set_local-requires-clause-given g c = top_given c.loop-locals.frames.types

pub loop-locals-preserved : goal.loop-locals-preserved
loop-locals-preserved g c =
    let x = c.loop-locals.frames in
    let p = popped_off x c.units.result c.args.left c.loop-locals.locals c.pop.new.self c.pop.result c.pop.ensures (omega (arith, c.loop-locals-test.true, c.count.ensures)) (c.units.ensures x.types) c.loop-locals.invariant.laid in
    record {
      rest = rewritten_local c.args.frames.now x c.set_local.new.self c.units.result 0 c.in_ok-set_local.ensures.ok c.loop-locals.invariant.rest;
      laid = subst (λ y. IsLaidOut y c.pop.new.self) (sym c.in_ok-set_local.ensures.ok) p.laid;
      left = p.front ∙ c.loop-locals.invariant.left;
    }
