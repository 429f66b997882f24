use Rattle.std.proofs.Common.{◌≡◌, sym, ◌∙◌, ap}
use Rattle.std.specs.Option.{is_some}
use Rattle.insn.specs.Operators.{stack_forms}
use Rattle.machine.specs.private.Decided.{form_for}
use Rattle.machine.specs.Views.{stack_of, state_view}
use Rattle.machine.proofs.Forms.{form_tested, form_test, same_some}
use Rattle.machine.proofs.operands.has_form.Goals as goal

pub returns : goal.returns
returns c =
    let same : is_some c.form_for.result ≡ is_some (form_for (stack_forms c.args.operator) (state_view c.args.state.now).stack) =
    same_some c.form_for.result ∙ ap is_some (c.form_for.ensures ∙ ap (λ z. form_for z (stack_of c.deref.result.now)) c.forms.ensures ∙ ap (λ z. form_for (stack_forms c.args.operator) (stack_of z)) c.deref.ensures.value) in
    (λ t. form_tested (stack_forms c.args.operator) (state_view c.args.state.now) (sym same ∙ sym c.is_some.ensures ∙ t), λ h. c.is_some.ensures ∙ same ∙ form_test (stack_forms c.args.operator) (state_view c.args.state.now) h)
