use Rattle.std.proofs.Common.{◌∙◌, arith, sym}
use Rattle.hierarchy.proofs.SameSummaries.{all_texts, one_text_more}
use Rattle.hierarchy.proofs.same_summaries.same_texts.Goals as goal

pub loop-i-preserved : goal.loop-i-preserved
loop-i-preserved c =
    one_text_more c.args.ones.now c.args.others.now c.loop-i.i _ _ c.loop-i-test.true (omega (arith, c.loop-i-test.true, c.if-ones-others.false)) (sym c.ne.ensures ∙ c.if-ne.false) c.loop-i.invariant

pub returns : goal.returns
returns c e = all_texts c.args.ones.now c.args.others.now c.if-ones-others.false (λ p lt. c.loop-i.invariant p (omega (arith, lt, c.loop-i-test.false)))
