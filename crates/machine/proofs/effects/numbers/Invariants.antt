use Rattle.std.proofs.Common.{◌≡◌, take}
use Rattle.machine.specs.Effects.{demands_of_kinds}
use Rattle.machine.specs.private.EffectViews.{demands_view}
use Rattle.machine.proofs.effects.numbers.Given as goal

abbrev pub invariant-loop-kind : goal.invariant-loop-kind
invariant-loop-kind l = demands_view l.demands.items ≡ demands_of_kinds (take l.kind-index l.kinds)
