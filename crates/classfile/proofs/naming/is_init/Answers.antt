use Rattle.std.proofs.Common.{◌≡◌, ◌∙◌, length, ap, arith}
use Rattle.classfile.specs.Naming.{is_init}
use Rattle.classfile.proofs.SpecialNames.{init_by_bytes}
use Rattle.classfile.proofs.naming.is_init.Goals as goal

pub returns : goal.returns
returns c =
    let xs = c.bytes.result.now in
    let so : length xs ≡ 6 = omega (arith, c.in-len6.len_at_least, c.in-len6.len_below) in
    init_by_bytes xs so ∙ ap is_init c.bytes.ensures
