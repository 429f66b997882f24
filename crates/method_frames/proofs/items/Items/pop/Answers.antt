use Rattle.std.proofs.Common.{subst}
use Rattle.method_frames.specs.private.Counted.{IsCounted}
use Rattle.method_frames.specs.private.Holders.{AreListed}
use Rattle.method_frames.proofs.Holding.{listed_pop}
use Rattle.method_frames.proofs.Counting.{counted_some, counted_less}
use Rattle.method_frames.proofs.items.Items.pop.Goals as goal

pub overflow_sub-self : goal.overflow_sub-self
overflow_sub-self c =
    let x = c.self.inside in
    counted_some c.pop.new.self.items c.in_ok-number.number x.wides c.extra.result c.extra.ensures.units
    (subst (λ ns. IsCounted ns x.wides) c.in_ok-number.ensures.items c.self.invariant.counted)

pub invariant_of-self-2 : goal.invariant_of-self-2
invariant_of-self-2 c =
    let x = c.self.inside in
    record {
      counted = counted_less c.pop.new.self.items c.in_ok-number.number x.wides c.extra.result c.extra.ensures.units
          (subst (λ ns. IsCounted ns x.wides) c.in_ok-number.ensures.items c.self.invariant.counted);
      listed = listed_pop x.holders c.pop.new.self.items c.in_ok-number.number (subst (AreListed x.holders) c.in_ok-number.ensures.items c.self.invariant.listed);
    }
