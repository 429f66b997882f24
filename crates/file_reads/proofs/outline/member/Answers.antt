use Rattle.classfile.specs.Outline.{member, numbers, attributes}
use Rattle.file_reads.proofs.Outlines.{and_last}
use Rattle.file_reads.proofs.outline.member.Goals as goal

pub returns : goal.returns
unfolding member
returns c =
    and_last (λ x. x.now) (numbers 3) (λ skipped. attributes) c.args.bytes.now c.in_ok-rest.rest.now tt c.attributes.result c.in_ok-rest.ensures c.attributes.ensures
