use Rattle.std.proofs.Common.{arith}
use Rattle.names.proofs.TypeEndLaws.{class_to_end}
use Rattle.names.proofs.type_end.class_end.Goals as goal

pub returns-clause-read : goal.returns-clause-read
returns-clause-read c =
    let run = c.name_end-end.ensures in
    let ordered = run.ordered in
    let within = run.within in
    let not_all = c.if-end-bytes.false in
    let some = c.if-end-start.false in
    λ h. class_to_end c.args.bytes.now c.args.at c.name_end-end.result c.requires.letter run (omega (arith, ordered, some)) (omega (arith, within, not_all)) c.if-bytes-end-ne59.false
    c.if-bytes-start-eq47.false c.if-bytes-end-eq47.false
