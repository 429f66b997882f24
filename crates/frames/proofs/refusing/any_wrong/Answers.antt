use Rattle.std.proofs.Common.{◌∙◌, sym}
use Rattle.frames.specs.private.Judging.{is_wrong}
use Rattle.frames.proofs.Judging.{any_at, any_none}
use Rattle.frames.proofs.refusing.any_wrong.Goals as goal

pub loop-info-preserved : goal.loop-info-preserved
loop-info-preserved g c =
    any_none (is_wrong c.args.wrong c.args.pool.now (g.S.Starts.code c.args.starts.now)) c.args.infos.now c.loop-info.info-index _ c.loop-info-test.true c.loop-info.invariant (sym c.is_wrong.ensures ∙ c.if-is_wrong.false)

pub returns-then-is_wrong : goal.returns-then-is_wrong
returns-then-is_wrong g c =
    sym (any_at (is_wrong c.args.wrong c.args.pool.now (g.S.Starts.code c.args.starts.now)) c.args.infos.now c.loop-info.info-index _ c.loop-info-test.true (sym c.is_wrong.ensures ∙ c.if-is_wrong.true))
