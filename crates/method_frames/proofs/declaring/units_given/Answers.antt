use Rattle.std.proofs.Common.{◌≡◌, map, subst, arith}
use Rattle.std.proofs.lemmas.List.{take_all}
use Rattle.frames.specs.MapViews.{info_of}
use Rattle.frames.specs.DeclaredFrames.{types_given}
use Rattle.frames.specs.Slots.{units_of}
use Rattle.method_frames.proofs.MapUnits.{units_given}
use Rattle.method_frames.proofs.declaring.units_given.Goals as goal

pub loop-i-preserved : goal.loop-i-preserved
loop-i-preserved c = record {
  few = omega (arith, c.loop-i.invariant.few, c.width_given-units.ensures.few);
  units = λ pool. units_given pool c.args.infos.now c.loop-i.i _ c.loop-i.units c.width_given-units.result (omega (arith, c.loop-i-test.true)) (c.loop-i.invariant.units pool) (c.width_given-units.ensures.width pool);
}

pub returns-clause-units : goal.returns-clause-units
returns-clause-units c pool = subst (λ is. units_of (types_given pool (map info_of is)) ≡ c.loop-i.units) (take_all c.loop-i.i c.args.infos.now (omega (arith, c.loop-i-test.false))) (c.loop-i.invariant.units pool)
