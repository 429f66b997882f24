use Rattle.std.proofs.Common.{subst, map, arith}
use Rattle.std.proofs.lemmas.List.{take_all}
use Rattle.frames.specs.MapViews.{info_of}
use Rattle.frames.specs.DeclaredFrames.{types_given}
use Rattle.method_frames.specs.private.MapEntries.{AreNumbers}
use Rattle.method_frames.proofs.MapUnits.{numbers_more}
use Rattle.method_frames.proofs.declaring.numbers_given.Goals as goal

pub loop-i-preserved : goal.loop-i-preserved
loop-i-preserved c s pool table =
    numbers_more s pool c.args.infos.now c.loop-i.i _ c.loop-i.numbers.items c.append.new.numbers.items c.number_given-number.result (omega (arith, c.loop-i-test.true))
    (c.number_given-number.ensures s pool table) (c.loop-i.invariant s pool table) c.in_ok-append.ensures.ok

pub returns : goal.returns
returns c s pool table =
    subst (λ is. AreNumbers s c.loop-i.numbers.items (types_given pool (map info_of is))) (take_all c.loop-i.i c.args.infos.now (omega (arith, c.loop-i-test.false))) (c.loop-i.invariant s pool table)
