use Rattle.std.proofs.Common.{◌≡◌, sym, subst, ◌+◌, length, arith}
use Rattle.method_frames.specs.private.Counted.{IsCounted}
use Rattle.method_frames.specs.private.Holders.{IsListed, AreListed}
use Rattle.method_frames.proofs.Holding.{listed_kept, listed_push}
use Rattle.method_frames.proofs.Counting.{wides_most, counted_more}
use Rattle.method_frames.proofs.items.Items.push.Goals as goal

pub overflow_add-self : goal.overflow_add-self
overflow_add-self c =
    let x = c.self.inside in
    omega (arith, wides_most x.numbers.items x.wides c.self.invariant.counted, c.in_ok-append.ensures.len, c.append.new.numbers.ok.0, x.numbers.ok.0, c.extra.ensures.few)

pub invariant_of-self : goal.invariant_of-self
invariant_of-self c =
    let x = c.self.inside in
    record { counted = c.self.invariant.counted; listed = listed_kept x.holders c.list.new.self c.list.ensures.kept x.numbers.items c.self.invariant.listed }

pub invariant_of-self-2 : goal.invariant_of-self-2
invariant_of-self-2 c =
    let x = c.self.inside in
    let ns = x.numbers.items in
    let kept = listed_kept x.holders c.list.new.self c.list.ensures.kept ns c.self.invariant.listed in
    let at : c.len.result ≡ length ns = omega (arith, c.len.ensures, x.numbers.ok.0) in
    record {
      counted = subst (λ ns. IsCounted ns (x.wides + c.extra.result)) (sym c.in_ok-append.ensures.ok)
          (counted_more ns c.args.number x.wides c.extra.result c.extra.ensures.units c.self.invariant.counted);
      listed = subst (AreListed c.list.new.self) (sym c.in_ok-append.ensures.ok)
          (listed_push c.list.new.self ns c.args.number kept (λ o. subst (IsListed c.list.new.self c.args.number) at (c.in_ok-list.ensures.listed o)));
    }
