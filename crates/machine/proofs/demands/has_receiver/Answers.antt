use Rattle.std.proofs.Common.{◌≡◌, sym, ◌∙◌, ap, slice_get, length, Some, None}
use Rattle.std.proofs.lemmas.Bool.{false≢true}
use Rattle.std.proofs.lemmas.List.{length-map}
use Rattle.machine.specs.Bodies.{method_view}
use Rattle.machine.specs.private.EffectViews.{demand_view, demands_view}
use Rattle.machine.specs.Views.{value_view, stack_of, state_view}
use Rattle.machine.proofs.EffectLaws.{no_receiver, receiver_found, receiver_there}
use Rattle.machine.proofs.demands.has_receiver.Goals as goal

pub returns-in-None : goal.returns-in-None
returns-in-None c =
    let m = method_view c.args.method.now in
    let s = state_view c.args.state.now in
    let e : None ≡ slice_get s.stack (length (demands_view c.args.demands.now)) = c.in-None.ensures ∙ ap (λ z. slice_get (stack_of z) (length c.args.demands.now)) c.deref.ensures.value ∙ ap (slice_get s.stack) (sym (length-map c.args.demands.now demand_view)) in
    (λ t. absurd (false≢true t), λ h. absurd (no_receiver m c.args.class.now (demands_view c.args.demands.now) s e h))

pub returns-in-Some : goal.returns-in-Some
returns-in-Some c =
    let m = method_view c.args.method.now in
    let s = state_view c.args.state.now in
    let v = value_view c.in-Some.value in
    let e : Some v ≡ slice_get s.stack (length (demands_view c.args.demands.now)) = c.in-Some.ensures ∙ ap (λ z. slice_get (stack_of z) (length c.args.demands.now)) c.deref.ensures.value ∙ ap (slice_get s.stack) (sym (length-map c.args.demands.now demand_view)) in
    (λ t. receiver_found m c.args.class.now (demands_view c.args.demands.now) s v e (c.is_uninitialized.ensures.0 t), λ h. c.is_uninitialized.ensures.1 (receiver_there m c.args.class.now (demands_view c.args.demands.now) s v e h))
