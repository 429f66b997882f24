use Rattle.std.proofs.Common.{◌≡◌, ◌∷◌, sym, ◌∙◌, ap}
use Rattle.insn.specs.OperandStacks.{beneath}
use Rattle.machine.specs.Values.{reference}
use Rattle.machine.specs.private.EffectViews.{demands_view}
use Rattle.machine.specs.Views.{value_view, stack_of, state_view}
use Rattle.std.specs.Prelude.{option_map}
use Rattle.machine.proofs.Moves.{stack_last}
use Rattle.machine.proofs.EffectLaws.{no_answer, initialized}
use Rattle.machine.proofs.execution.initialize.Goals as goal

pub returns-in-Some-Ref : goal.returns-in-Some-Ref
returns-in-Some-Ref c =
    let s = state_view c.args.state in
    let rest = stack_of c.pop.new.self.items in
    let e : beneath (demands_view c.args.demands.now) s.stack ≡ reference c.in-Some-Ref.address ∷ rest =
    sym c.take_operands.ensures ∙ ap stack_of c.in-Some-Ref.ensures.items ∙ stack_last c.pop.new.self.items c.in-Some-Ref.field-0 ∙ ap (λ z. value_view z ∷ rest) c.in-Some-Ref.field-0-is in
    initialized (demands_view c.args.demands.now) s (option_map value_view c.args.answer) c.in-Some-Ref.address rest e (no_answer c.args.answer c.is_some.result c.is_some.ensures c.if-is_some.false) c.make_ready.result c.make_ready.ensures
