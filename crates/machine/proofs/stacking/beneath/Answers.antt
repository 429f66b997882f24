use Rattle.std.proofs.Common.{◌∙◌, drop, sym, ap}
use Rattle.std.proofs.lemmas.List.{length-map}
use Rattle.machine.specs.private.EffectViews.{demand_view, demands_view}
use Rattle.machine.specs.Views.{stack_of}
use Rattle.machine.proofs.Moves.{beneath_drop}
use Rattle.machine.proofs.stacking.beneath.Goals as goal

pub returns : goal.returns
returns c = c.beneath_so_many.ensures ∙ sym (beneath_drop (demands_view c.args.demands.now) (stack_of c.args.stack.now) ∙ ap (λ n. drop n (stack_of c.args.stack.now)) (length-map c.args.demands.now demand_view))
