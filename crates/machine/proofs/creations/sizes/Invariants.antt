use Rattle.std.proofs.Common.{◌≡◌}
use Rattle.machine.specs.Effects.{sizes}
use Rattle.machine.specs.private.EffectViews.{demands_view}
use Rattle.machine.proofs.creations.sizes.Given as goal

abbrev pub invariant-loop : goal.invariant-loop
invariant-loop l = demands_view l.demands.items ≡ sizes l.counter
