use Rattle.file_reads.proofs.Outlines.{magic_front}
use Rattle.file_reads.proofs.outline.head.Goals as goal

pub returns : goal.returns
returns c =
    let split = c.in_ok-front.ensures.cases in
    magic_front (λ x. x.now) c.args.bytes.now c.in_ok-front.front.now c.in_ok-front.rest.now c.read_u32.result c.numbers.result split.0 split.1 split.2 c.read_u32.ensures
    c.if-read_u32.false c.numbers.ensures
