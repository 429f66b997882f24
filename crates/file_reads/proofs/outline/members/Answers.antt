use Rattle.layout.specs.Format.{number}
use Rattle.classfile.specs.Outline.{members, member, repeated}
use Rattle.file_reads.proofs.Outlines.{and_last}
use Rattle.file_reads.proofs.outline.members.Goals as goal

pub returns : goal.returns
unfolding members
returns c =
    and_last (λ x. x.now) (number 2) (λ n. repeated n member) c.args.bytes.now c.in_ok-count.rest.now c.in_ok-count.count c.members_of.result c.in_ok-count.ensures c.members_of.ensures
