use Rattle.std.proofs.Common.{◌∙◌, sym, ap}
use Rattle.byteorder.specs.Endian.{big_number}
use Rattle.serving.proofs.Taken.{taken_bytes}
use Rattle.serving.proofs.message.take_rest.Goals as goal

pub returns : goal.returns
returns g c =
    let left = g.R.Read.remaining in
    let (four, first) = c.in_ok-head.ensures.all in
    taken_bytes (left c.args.input.now) (left c.take_bytes.new.input) (left c.take_bytes-2.new.input) c.in_ok-head.head.items c.read_u32-count.result c.take_bytes-2.result four
    (ap (big_number 4) (sym c.deref.ensures.value) ∙ sym c.read_u32-count.ensures) c.if-count-gt-MAX_CLASS_BYTES.false first c.take_bytes-2.ensures.all c.take_bytes-2.ensures.fewer
