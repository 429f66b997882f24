use Rattle.std.proofs.Common.{◌≡◌, ◌≤◌, ◌<◌, ◌∙◌, Some, sym, ap, subst, inr, map, length, arith, refl, option_map}
use Rattle.std.proofs.lemmas.List.{length-map}
use Rattle.hierarchy.specs.Answer.{yes}
use Rattle.insn.specs.Operators.{stack_forms}
use Rattle.insn.specs.OperandStacks.{rearranged, units_taken}
use Rattle.insn.specs.Views.{stack_form_view}
use Rattle.frames.specs.Slots.{units_of}
use Rattle.type_numbers.specs.Decoding.{type_by}
use Rattle.rules.specs.After.{form_for, with_stack}
use Rattle.rules.specs.Bodies.{method_view}
use Rattle.rules.specs.Outcomes.{Done, settled}
use Rattle.rules.proofs.Moving.{fits_length, form_takes}
use Rattle.rules.proofs.Taking.{has_fewer}
use Rattle.rules.proofs.Settling.{moves_few, moves_done}
use Rattle.numbered_rules.specs.RunningFrame.{held}
use Rattle.numbered_rules.proofs.Moving.{map_rearranged}
use Rattle.numbered_rules.proofs.stacks.rearranges.Goals as goal

pub returns-then-not-has_units-clause-done : goal.returns-then-not-has_units-clause-done
returns-then-not-has_units-clause-done g c =
    let x = c.args.frames.now in
    let taken : c.units_taken.result ≡ units_taken (stack_forms c.args.operator) = c.units_taken.ensures ∙ ap units_taken c.forms-forms.ensures in
    let fewer : units_of (held x).stack < c.units_taken.result = has_fewer (units_of (held x).stack) c.units_taken.result c.has_units.result c.if-not-has_units.true c.has_units.ensures.1 in
    record { outcome = inr (moves_few x.types.classes (method_view c.args.method.now) (stack_forms c.args.operator) (held x) (omega (arith, taken, fewer))) }

pub rearrange-requires : goal.rearrange-requires
rearrange-requires g c =
    let x = c.args.frames.now in
    let ts = (held x).stack in
    let long = length-map x.running.stack (type_by x.types) in
    let fits : length c.in-Some.form.takes.now ≤ length ts = fits_length c.in-Some.form.takes.now ts (form_takes ts (map stack_form_view c.forms-forms.result.now) (stack_form_view c.in-Some.form) (sym c.form_for.ensures ∙ ap (option_map stack_form_view) c.in-Some.is)) in
    omega (arith, fits, long)

pub returns-in_ok-rearrange-in-Some-clause-done : goal.returns-in_ok-rearrange-in-Some-clause-done
returns-in_ok-rearrange-in-Some-clause-done g c =
    let x = c.args.frames.now in
    let f = held x in
    let m = method_view c.args.method.now in
    let forms = stack_forms c.args.operator in
    let form = stack_form_view c.in-Some.form in
    let taken : c.units_taken.result ≡ units_taken forms = c.units_taken.ensures ∙ ap units_taken c.forms-forms.ensures in
    let enough = c.has_units.ensures.0 c.if-not-has_units.false in
    let found : form_for forms f.stack ≡ Some form = ap (λ fs. form_for fs f.stack) (sym c.forms-forms.ensures) ∙ sym c.form_for.ensures ∙ ap (option_map stack_form_view) c.in-Some.is in
    let moved : held c.rearrange.new.self ≡ with_stack f (rearranged form f.stack) = ap held c.in_ok-rearrange-in-Some.ensures.ok ∙ ap (with_stack f) (map_rearranged (type_by x.types) form x.running.stack) in
    moves_done x.types.classes m forms f form (rearranged form f.stack) (held c.rearrange.new.self) c.judge_frame_after.result (omega (arith, taken, enough)) found refl
    (subst (λ z. Done (settled m yes z) z (held c.rearrange.new.self) c.judge_frame_after.result) moved c.judge_frame_after.ensures)
