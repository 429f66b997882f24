use Rattle.std.proofs.Common.{◌≡◌, sym, ◌∙◌, ap, Some}
use Rattle.insn.specs.Operators.{stack_forms}
use Rattle.insn.specs.OperandStacks.{rearranged}
use Rattle.insn.specs.Views.{stack_form_view}
use Rattle.machine.specs.Steps.{moved}
use Rattle.machine.specs.private.Decided.{form_for}
use Rattle.machine.specs.Views.{stack_of, state_view}
use Rattle.machine.proofs.Forms.{form_chosen}
use Rattle.machine.proofs.EffectLaws.{no_answer}
use Rattle.machine.proofs.execution.rearrange.Goals as goal

pub returns : goal.returns
returns c =
    let vs = stack_of c.args.state.stack.items in
    let f = stack_form_view c.in-Some.form in
    let found : form_for (stack_forms c.args.operator) vs ≡ Some f = sym (c.in-Some.ensures ∙ ap (λ z. form_for z (stack_of c.deref.result.now)) c.forms.ensures ∙ ap (λ z. form_for (stack_forms c.args.operator) (stack_of z)) c.deref.ensures.value) in
    let chosen = form_chosen (stack_forms c.args.operator) vs f found in (
      f,
      chosen.0,
      chosen.1,
      no_answer c.args.answer c.is_some.result c.is_some.ensures c.if-is_some.false,
      ap (λ z. moved (state_view c.args.state) c.args.state.at z) (c.in_ok-state.ensures ∙ ap (λ z. rearranged f (stack_of z)) c.deref-2.ensures.value),
    )
