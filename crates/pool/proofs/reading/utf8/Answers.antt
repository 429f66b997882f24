use Rattle.std.proofs.Common.{◌≡◌, length, arith, ap}
use Rattle.std.proofs.lemmas.List.{length-append, length-take}
use Rattle.layout.specs.FormatLaws.{part_reads}
use Rattle.names.specs.Texts.{spelling}
use Rattle.pool.proofs.reading.utf8.Goals as goal

pub overflow_add-result : goal.overflow_add-result
overflow_add-result c =
    let p = part_reads _ _ _ _ c.in_ok-bytes.ensures in
    let f = c.in-Err-BadText.ensures.fault in
    let b = f.2 in
    let k : c.in-Err-BadText.at ≡ f.0 = let e = f.1 in cc in
    omega (arith, c.at-start.ensures.within, p.0, ap length p.1, length-take c.in_ok-length.length c.u2.new.self.rest, length-append (spelling b.units) b.others, ap length b.parts, b.at, b.more, k)
