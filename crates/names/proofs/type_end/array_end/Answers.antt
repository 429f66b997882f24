use Rattle.std.proofs.Common.{arith}
use Rattle.names.proofs.TypeEndLaws.{type_to_end}
use Rattle.names.proofs.type_end.array_end.Goals as goal

pub returns-clause-read : goal.returns-clause-read
returns-clause-read c =
    let forth = c.base_end-end.ensures.forth in
    let some = c.if-end-base.false in
    λ h. type_to_end c.args.bytes.now c.split_at.result.1.now c.args.at c.brackets-dims.result c.base_end-end.result c.split_at.ensures.back c.brackets-dims.ensures.count (c.base_end-end.ensures.read (omega (arith, forth, some))) c.if-dims-gt255.false
