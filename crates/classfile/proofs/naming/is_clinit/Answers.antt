use Rattle.std.proofs.Common.{◌≡◌, ◌∙◌, length, ap, arith}
use Rattle.classfile.specs.Naming.{is_clinit}
use Rattle.classfile.proofs.SpecialNames.{clinit_by_bytes}
use Rattle.classfile.proofs.naming.is_clinit.Goals as goal

pub returns : goal.returns
returns c =
    let xs = c.bytes.result.now in
    let so : length xs ≡ 8 = omega (arith, c.in-len8.len_at_least, c.in-len8.len_below) in
    clinit_by_bytes xs so ∙ ap is_clinit c.bytes.ensures
