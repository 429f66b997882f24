use Rattle.std.proofs.Common.{◌-◌, ◌≤◌, subst}
use Rattle.method_frames.specs.private.Counted.{IsCounted}
use Rattle.method_frames.specs.private.EntryLocals.{AreSummed}
use Rattle.method_frames.proofs.Counting.{counted_some}
use Rattle.method_frames.proofs.Summing.{own_some, summed_less, others_left, one_if}
use Rattle.method_frames.proofs.entry_locals.EntryLocals.pop.Goals as goal

pub overflow_sub-self : goal.overflow_sub-self
overflow_sub-self c =
    let x = c.self.inside in
    counted_some c.pop.new.self.items c.in_ok-number.number x.wides c.extra.result c.extra.ensures.units
    (subst (λ ns. IsCounted ns x.wides) c.in_ok-number.ensures.items c.self.invariant.counted)

pub overflow_sub-self-then-is_own : goal.overflow_sub-self-then-is_own
overflow_sub-self-then-is_own c =
    let x = c.self.inside in
    subst (λ b. one_if b ≤ x.own) c.if-is_own.true
    (own_some c.pop.new.self.items c.in_ok-number.number x.wides x.own c.extra.result c.is_own.result c.extra.ensures.units c.is_own.ensures
    (subst (λ ns. AreSummed ns x.wides x.own) c.in_ok-number.ensures.items c.self.invariant))

pub invariant_of-self-then-is_own : goal.invariant_of-self-then-is_own
invariant_of-self-then-is_own c =
    let x = c.self.inside in
    subst (λ b. AreSummed c.pop.new.self.items (x.wides - c.extra.result) (x.own - one_if b)) c.if-is_own.true
    (summed_less c.pop.new.self.items c.in_ok-number.number x.wides x.own c.extra.result c.is_own.result c.extra.ensures.units c.is_own.ensures
    (subst (λ ns. AreSummed ns x.wides x.own) c.in_ok-number.ensures.items c.self.invariant))

pub invariant_of-self-else-is_own : goal.invariant_of-self-else-is_own
invariant_of-self-else-is_own c =
    let x = c.self.inside in
    others_left c.pop.new.self.items c.in_ok-number.number x.wides x.own c.extra.result c.is_own.result c.extra.ensures.units c.is_own.ensures c.if-is_own.false
    (subst (λ ns. AreSummed ns x.wides x.own) c.in_ok-number.ensures.items c.self.invariant)
