use Rattle.std.proofs.Common.{sym, ◌∙◌}
use Rattle.machine.proofs.Stacks.{paired_next, paired_not, paired_end}
use Rattle.machine.proofs.operands.are_paired.Goals as goal

pub loop-slot-preserved : goal.loop-slot-preserved
loop-slot-preserved c = rw c.is_wide_slot-wide.ensures (c.loop-slot.invariant ∙ paired_next c.args.slots.now c.loop-slot.slot-index _ c.loop-slot.wide c.loop-slot-test.true (sym c.is_behind.ensures ∙ c.if-not-is_behind.false))

pub returns-then-not-is_behind : goal.returns-then-not-is_behind
returns-then-not-is_behind c = sym (c.loop-slot.invariant ∙ paired_not c.args.slots.now c.loop-slot.slot-index _ c.loop-slot.wide c.loop-slot-test.true (sym c.is_behind.ensures ∙ c.if-not-is_behind.true))

pub returns : goal.returns
returns c = sym (c.loop-slot.invariant ∙ paired_end c.args.slots.now c.loop-slot.slot-index c.loop-slot.wide c.loop-slot-test.false)
