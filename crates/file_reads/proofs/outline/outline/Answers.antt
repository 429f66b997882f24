use Rattle.layout.specs.Format.{andthen}
use Rattle.classfile.specs.Outline.{outline, head, pool, behind_pool}
use Rattle.file_reads.proofs.Outlines.{and_last}
use Rattle.file_reads.proofs.outline.outline.Goals as goal

pub returns : goal.returns
unfolding outline
returns c =
    and_last (λ x. x.now) head (λ skipped. andthen pool (λ skipped. behind_pool)) c.args.bytes.now c.in_ok-rest.rest.now tt c.behind_pool.result c.in_ok-rest.ensures
    (and_last (λ x. x.now) pool (λ skipped. behind_pool) c.in_ok-rest.rest.now c.in_ok-rest-2.rest.now tt c.behind_pool.result c.in_ok-rest-2.ensures c.behind_pool.ensures)
