use Rattle.file_reads.proofs.Outlines.{number_front}
use Rattle.file_reads.proofs.outline.u2.Goals as goal

pub returns : goal.returns
returns c =
    let split = c.in_ok-front.ensures.cases in
    number_front 2 c.args.bytes.now c.in_ok-front.front.now c.in_ok-front.rest.now c.read_u16.result split.0 split.1 split.2 c.read_u16.ensures
