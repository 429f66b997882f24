use Rattle.std.proofs.Common.{false}
use Rattle.classfile.specs.Outline.{constants}
use Rattle.file_reads.proofs.Outlines.{constants_on, constants_end}
use Rattle.file_reads.proofs.outline.constants.Goals as goal

pub loop-i-preserved : goal.loop-i-preserved
loop-i-preserved c =
    constants_on (constants c.args.count false) c.args.count c.loop-i.i c.loop-i.second c.in_ok-second.field-0-0 c.args.bytes.now c.loop-i.rest.now c.in_ok-second.field-0-1.now
    c.loop-i-test.true c.in_ok-second.ensures c.loop-i.invariant

pub returns : goal.returns
returns c = constants_end (constants c.args.count false) c.args.count c.loop-i.i c.loop-i.second c.args.bytes.now c.loop-i.rest.now c.loop-i-test.false c.loop-i.invariant
