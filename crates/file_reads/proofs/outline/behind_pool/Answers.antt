use Rattle.layout.specs.Format.{andthen}
use Rattle.classfile.specs.Outline.{behind_pool, numbers, interfaces, members, attributes}
use Rattle.file_reads.proofs.Outlines.{and_last}
use Rattle.file_reads.proofs.outline.behind_pool.Goals as goal

pub returns : goal.returns
unfolding behind_pool
returns c =
    and_last (λ x. x.now) (numbers 3) (λ skipped. andthen interfaces (λ skipped. andthen members (λ skipped. andthen members (λ skipped. attributes)))) c.args.bytes.now
    c.in_ok-rest.rest.now tt c.attributes.result c.in_ok-rest.ensures
    (and_last (λ x. x.now) interfaces (λ skipped. andthen members (λ skipped. andthen members (λ skipped. attributes))) c.in_ok-rest.rest.now c.in_ok-rest-2.rest.now tt
    c.attributes.result c.in_ok-rest-2.ensures
    (and_last (λ x. x.now) members (λ skipped. andthen members (λ skipped. attributes)) c.in_ok-rest-2.rest.now c.in_ok-rest-3.rest.now tt c.attributes.result c.in_ok-rest-3.ensures
    (and_last (λ x. x.now) members (λ skipped. attributes) c.in_ok-rest-3.rest.now c.in_ok-rest-4.rest.now tt c.attributes.result c.in_ok-rest-4.ensures c.attributes.ensures)))
