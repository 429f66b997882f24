use Rattle.std.proofs.Common.{◌∷◌, [], ◌++◌, ◌∙◌, ap, sym, map}
use Rattle.std.proofs.lemmas.List.{map-append}
use Rattle.names.specs.Types.{type_of}
use Rattle.machine.specs.Effects.{arguments_on}
use Rattle.machine.specs.private.EffectViews.{demand_view, demands_view}
use Rattle.machine.proofs.OperandDemands.{on_others}
use Rattle.machine.proofs.calls.arguments_on.Goals as goal

pub returns-in_ok-push-in-Some : goal.returns-in_ok-push-in-Some
returns-in_ok-push-in-Some c =
    rw c.in-Some.is (
    ap demands_view c.in_ok-push-in-Some.ensures.items ∙ map-append demand_view c.push_arguments.new.demands.items (c.in-Some.demand ∷ [])
    ∙ ap (λ z. z ++ demand_view c.in-Some.demand ∷ []) (c.in_ok-push_arguments.ensures ∙ ap (λ z. demands_view z ++ arguments_on (map type_of c.args.params.now) []) c.new-demands.ensures.items) ∙ sym (on_others (map type_of c.args.params.now) (demand_view c.in-Some.demand ∷ [])))
