use Rattle.classfile.specs.Outline.{member, repeated}
use Rattle.file_reads.proofs.Outlines.{pass_on, pass_end}
use Rattle.file_reads.proofs.outline.members_of.Goals as goal

pub loop-preserved : goal.loop-preserved
loop-preserved c =
    pass_on member (repeated c.args.count member) c.args.count c.loop.counter tt c.args.bytes.now c.loop.rest.now c.in_ok-rest.rest.now c.loop-test.true c.in_ok-rest.ensures c.loop.invariant

pub returns : goal.returns
returns c = pass_end member (repeated c.args.count member) c.args.count c.loop.counter c.args.bytes.now c.loop.rest.now c.loop-test.false c.loop.invariant
