use Rattle.std.proofs.lemmas.Result.{err_from_is_err_and}
use Rattle.layout.specs.Format.{andthen}
use Rattle.layout.specs.StreamLaws.{then_streams}
use Rattle.classfile.specs.Outline.{pool, behind_pool, head, outline}
use Rattle.classfile.proofs.Outlines.{streams_on, behind_streams}
use Rattle.classfile.proofs.outline.outline.Goals as goal

pub returns-in_err-pool : goal.returns-in_err-pool
unfolding outline
returns-in_err-pool g c =
    let p = err_from_is_err_and c.from_residual-in_err-pool.result c.from_residual-in_err-pool.ensures.1 in
    rw (p.1, p.2) (behind_streams head (λ skipped. andthen pool (λ skipped. behind_pool)) _ _ _ _ _ _ _ _ c.in_ok-head.ensures
    (streams_on pool (λ skipped. behind_pool) (λ x. x) (λ x. x) _ _ _ _ _ c.in_err-pool.ensures))

pub returns : goal.returns
unfolding outline
returns g c = then_streams head (λ skipped. andthen pool (λ skipped. behind_pool)) (λ x. x) _ _ _ _ _ _ _ _ c.in_ok-head.ensures
    (then_streams pool (λ skipped. behind_pool) (λ x. x) _ _ _ _ _ _ _ _ c.in_ok-pool.ensures
    (c.behind_pool.ensures))
