use Rattle.std.proofs.Common.{◌≡◌, suc, ◌+◌, arith, ◌∷◌, [], ◌++◌, ◌∙◌, ap}
use Rattle.std.proofs.lemmas.List.{map-append}
use Rattle.insn.specs.declared.kinds.Kind.TheVariants as kinds
use Rattle.machine.specs.declared.effect.Demand.TheVariants as raw
use Rattle.machine.specs.Effects.{of_kind, sizes}
use Rattle.machine.specs.private.EffectViews.{demand_view, demands_view}
use Rattle.machine.proofs.OperandDemands.{one_more}
use Rattle.machine.proofs.creations.sizes.Goals as goal

pub loop-preserved : goal.loop-preserved
loop-preserved c =
    let next : suc c.loop.counter ≡ c.loop.counter + 1 = omega arith in
    ap demands_view c.in_ok-push.ensures.items ∙ map-append demand_view c.loop.demands.items (raw.Number kinds.Int ∷ [])
    ∙ ap (λ z. z ++ of_kind kinds.Int ∷ []) c.loop.invariant ∙ one_more c.loop.counter ∙ ap sizes next
