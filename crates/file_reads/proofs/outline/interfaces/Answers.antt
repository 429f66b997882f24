use Rattle.layout.specs.Format.{number}
use Rattle.classfile.specs.Outline.{interfaces, numbers}
use Rattle.file_reads.proofs.Outlines.{and_last}
use Rattle.file_reads.proofs.outline.interfaces.Goals as goal

pub returns : goal.returns
unfolding interfaces
returns c =
    and_last (λ x. x.now) (number 2) numbers c.args.bytes.now c.in_ok-count.rest.now c.in_ok-count.count c.numbers.result c.in_ok-count.ensures c.numbers.ensures
