use Rattle.file_reads.proofs.Outlines.{pool_front}
use Rattle.file_reads.proofs.outline.pool.Goals as goal

pub returns : goal.returns
returns c = pool_front (λ x. x.now) c.args.bytes.now c.in_ok-count.rest.now c.in_ok-count.count c.constants.result c.in_ok-count.ensures c.if-count-eq0.false c.constants.ensures
