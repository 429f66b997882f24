use Rattle.std.proofs.Common.{take}
use Rattle.pool.specs.Views.{views}
use Rattle.rules.specs.Guards.{AreReadSoFar}
use Rattle.rules.proofs.guards.read_all.Given as goal

abbrev pub invariant-loop-constant : goal.invariant-loop-constant
invariant-loop-constant l = AreReadSoFar l.class (take l.constant-index (views l.constants)) l.places.items l.read
