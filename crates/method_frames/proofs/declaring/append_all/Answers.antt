use Rattle.method_frames.proofs.LayingOut.{appended_fits, appended_given}
use Rattle.std.proofs.Common.{arith}
use Rattle.method_frames.proofs.declaring.append_all.Goals as goal

pub add-requires-clause-given : goal.add-requires-clause-given
add-requires-clause-given g c = appended_given c.args.frames.now c.loop-i.frames c.args.numbers.now c.loop-i.i (omega (arith, c.loop-i-test.true)) c.requires.given c.loop-i.invariant.rest

pub add-requires-clause-fits : goal.add-requires-clause-fits
add-requires-clause-fits g c =
    appended_fits c.args.frames.now c.loop-i.frames c.args.locals.now c.loop-i.locals c.args.numbers.now c.loop-i.i (omega (arith, c.loop-i-test.true)) c.requires.fits c.loop-i.invariant.rest c.loop-i.invariant.locals
