use Rattle.std.proofs.Common.{◌≡◌, ◌+◌, ◌≤◌, ◌∙◌, length, suc, set, sym, ap, arith}
use Rattle.machine.specs.declared.items.Slot.TheVariants as raw
use Rattle.machine.specs.Views.{locals_of}
use Rattle.machine.proofs.Writes.{behind_narrow, behind_wide, behind_last}
use Rattle.machine.proofs.storing.free_behind.Goals as goal

pub returns-else-is_wide_slot : goal.returns-else-is_wide_slot
returns-else-is_wide_slot c = behind_narrow c.args.slots.now c.args.place _ (sym c.is_wide_slot.ensures ∙ c.if-is_wide_slot.false)

pub returns-then-is_wide_slot : goal.returns-then-is_wide_slot
returns-then-is_wide_slot c =
    let next : c.args.place + 1 ≡ suc c.args.place = omega arith in
    ap (λ n. locals_of (set c.args.slots.now n raw.Empty)) next ∙ behind_wide c.args.slots.now c.args.place _ (omega arith) (sym c.is_wide_slot.ensures ∙ c.if-is_wide_slot.true)

pub returns-then-place-slots : goal.returns-then-place-slots
returns-then-place-slots c =
    let le : length c.args.slots.now ≤ suc c.args.place = omega arith in
    behind_last c.args.slots.now c.args.place le
