use Rattle.std.proofs.Common.{◌≡◌, ◌-◌, ◌∙◌, suc, sym, ap, arith}
use Rattle.machine.specs.private.Happening.{with_before}
use Rattle.machine.specs.Views.{locals_of}
use Rattle.machine.proofs.Writes.{before_first, before_past, before_wide, before_narrow}
use Rattle.machine.proofs.storing.free_before.Goals as goal

pub returns-then-is_wide_slot : goal.returns-then-is_wide_slot
returns-then-is_wide_slot c =
    let next : suc (c.args.place - 1) ≡ c.args.place = omega arith in
    before_wide c.args.slots.now (c.args.place - 1) _ (omega arith) (sym c.is_wide_slot.ensures ∙ c.if-is_wide_slot.true) ∙ ap (λ n. with_before n (locals_of c.args.slots.now)) next

pub returns-else-is_wide_slot : goal.returns-else-is_wide_slot
returns-else-is_wide_slot c =
    let next : suc (c.args.place - 1) ≡ c.args.place = omega arith in
    before_narrow c.args.slots.now (c.args.place - 1) _ (omega arith) (sym c.is_wide_slot.ensures ∙ c.if-is_wide_slot.false) ∙ ap (λ n. with_before n (locals_of c.args.slots.now)) next

pub returns-then-place-eq0 : goal.returns-then-place-eq0
returns-then-place-eq0 c = before_first c.args.slots.now ∙ ap (λ n. with_before n (locals_of c.args.slots.now)) (sym c.if-place-eq0.true)

pub returns-then-place-slots : goal.returns-then-place-slots
returns-then-place-slots c = before_past c.args.slots.now c.args.place (omega arith)
