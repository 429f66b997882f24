use Rattle.std.proofs.Common.{◌≡◌, sym, ◌∙◌, ap, Some}
use Rattle.insn.specs.Operators.{stack_forms}
use Rattle.insn.specs.OperandStacks.{rearranged}
use Rattle.insn.specs.Views.{stack_form_view}
use Rattle.machine.specs.private.Decided.{form_for}
use Rattle.machine.specs.Views.{stack_of}
use Rattle.machine.proofs.EffectLaws.{room_by_form}
use Rattle.machine.proofs.demands.moves_have_room.Goals as goal

pub returns-in_ok-after-in-Some : goal.returns-in_ok-after-in-Some
returns-in_ok-after-in-Some c =
    let vs = stack_of c.args.state.now.stack.items in
    let f = stack_form_view c.in-Some.form in
    let found : form_for (stack_forms c.args.operator) vs ≡ Some f = sym (c.in-Some.ensures ∙ ap (λ z. form_for z (stack_of c.deref.result.now)) c.forms.ensures ∙ ap (λ z. form_for (stack_forms c.args.operator) (stack_of z)) c.deref.ensures.value) in
    room_by_form c.args.operator vs (stack_of c.deref-in-Some-2.result.now) f c.args.method.now.declared.code.now.max_stack c.has_room.result found
    (ap stack_of c.deref-in-Some-2.ensures.value ∙ c.in_ok-after-in-Some.ensures ∙ ap (λ z. rearranged f (stack_of z)) c.deref-in-Some.ensures.value)
    c.has_room.ensures
