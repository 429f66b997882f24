use Rattle.std.proofs.Common.{◌-◌, ◌∙◌, ap, arith}
use Rattle.rules.proofs.TopDown.{units_more, units_all}
use Rattle.rules.proofs.unmet_expectations.missing_units.Goals as goal

pub loop-t-preserved : goal.loop-t-preserved
loop-t-preserved c =
    c.saturating_sub-missing.ensures ∙ ap (λ n. c.loop-t.missing - n) (c.from.ensures ∙ c.width.ensures)
    ∙ units_more c.args.stack.now c.loop-t.t-index _ c.args.taken c.loop-t.missing c.loop-t-test.true c.loop-t.invariant

pub returns : goal.returns
returns c = units_all c.args.stack.now c.loop-t.t-index c.args.taken c.loop-t.missing (omega (arith, c.loop-t-test.false)) c.loop-t.invariant
