use Rattle.layout.specs.Format.{number}
use Rattle.classfile.specs.Outline.{attributes, attribute, repeated}
use Rattle.file_reads.proofs.Outlines.{and_last}
use Rattle.file_reads.proofs.outline.attributes.Goals as goal

pub returns : goal.returns
unfolding attributes
returns c =
    and_last (λ x. x.now) (number 2) (λ n. repeated n attribute) c.args.bytes.now c.in_ok-count.rest.now c.in_ok-count.count c.attributes_of.result c.in_ok-count.ensures c.attributes_of.ensures
