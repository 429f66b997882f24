use Rattle.std.proofs.Common.{◌+◌, get_or, take, sym, subst, arith}
use Rattle.std.proofs.lemmas.List.{take_more, take_all}
use Rattle.method_frames.specs.private.Counted.{IsCounted}
use Rattle.method_frames.proofs.Counting.{none_counted, counted_more}
use Rattle.method_frames.proofs.widths.wides.Goals as goal

pub loop-i-init : goal.loop-i-init
loop-i-init c = record { few = omega arith; counted = none_counted }

pub overflow_add-count : goal.overflow_add-count
overflow_add-count c = omega (arith, c.loop-i.invariant.few, c.extra-count.ensures.few)

pub loop-i-preserved : goal.loop-i-preserved
loop-i-preserved c =
    let xs = c.args.numbers.now in
    let i = c.loop-i.i in
    record {
      few = omega (arith, c.loop-i.invariant.few, c.extra-count.ensures.few);
      counted = subst (λ ns. IsCounted ns (c.loop-i.count + c.extra-count.result)) (sym (take_more xs i 0 (omega arith)))
          (counted_more (take i xs) (get_or xs i 0) c.loop-i.count c.extra-count.result c.extra-count.ensures.units c.loop-i.invariant.counted);
    }

pub returns : goal.returns
returns c = subst (λ ns. IsCounted ns c.loop-i.count) (take_all c.loop-i.i c.args.numbers.now (omega arith)) c.loop-i.invariant.counted
