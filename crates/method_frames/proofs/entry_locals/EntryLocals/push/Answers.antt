use Rattle.std.proofs.Common.{◌+◌, ◌++◌, ◌∷◌, [], sym, subst, arith}
use Rattle.method_frames.specs.private.EntryLocals.{AreSummed}
use Rattle.method_frames.proofs.Counting.{wides_most}
use Rattle.method_frames.proofs.Summing.{one_if, own_most, summed_more, summed_others}
use Rattle.method_frames.proofs.entry_locals.EntryLocals.push.Goals as goal

pub overflow_add-self : goal.overflow_add-self
overflow_add-self c =
    let x = c.self.inside in
    omega (arith, wides_most x.numbers.items x.wides c.self.invariant.counted, c.in_ok-append.ensures.len, c.append.new.numbers.ok.0, x.numbers.ok.0, c.extra.ensures.few)

pub overflow_add-self-then-is_own : goal.overflow_add-self-then-is_own
overflow_add-self-then-is_own c =
    let x = c.self.inside in
    omega (arith, own_most x.numbers.items x.wides x.own c.self.invariant, c.in_ok-append.ensures.len, c.append.new.numbers.ok.0, x.numbers.ok.0)

pub invariant_of-self-then-is_own : goal.invariant_of-self-then-is_own
invariant_of-self-then-is_own c =
    let x = c.self.inside in
    let more = summed_more x.numbers.items c.args.number x.wides x.own c.extra.result c.is_own.result c.extra.ensures.units c.is_own.ensures c.self.invariant in
    subst (λ ns. AreSummed ns (x.wides + c.extra.result) (x.own + 1)) (sym c.in_ok-append.ensures.ok)
    (subst (λ b. AreSummed (x.numbers.items ++ c.args.number ∷ []) (x.wides + c.extra.result) (x.own + one_if b)) c.if-is_own.true more)

pub invariant_of-self-else-is_own : goal.invariant_of-self-else-is_own
invariant_of-self-else-is_own c =
    let x = c.self.inside in
    subst (λ ns. AreSummed ns (x.wides + c.extra.result) x.own) (sym c.in_ok-append.ensures.ok)
    (summed_others x.numbers.items c.args.number x.wides x.own c.extra.result c.is_own.result c.extra.ensures.units c.is_own.ensures c.if-is_own.false c.self.invariant)
