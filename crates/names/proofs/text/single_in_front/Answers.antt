use Rattle.std.proofs.Common.{arith}
use Rattle.std.proofs.lemmas.Simd.{length-chunk}
use Rattle.names.proofs.SingleUnits.{lanes_between}
use Rattle.names.proofs.text.single_in_front.Goals as goal

pub single_in_block-requires : goal.single_in_block-requires
single_in_block-requires c = length-chunk c.args.at 32 c.args.bytes.now (omega arith)

pub returns-clause-single : goal.returns-clause-single
returns-clause-single c = lanes_between c.args.bytes.now c.args.at 32 c.single_in_block.result c.single_in_block.ensures
