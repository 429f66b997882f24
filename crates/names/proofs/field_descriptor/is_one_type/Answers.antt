use Rattle.std.proofs.Common.{length, arith, eqb-true, sym}
use Rattle.std.proofs.lemmas.Bool.{eqb-false}
use Rattle.names.proofs.FieldSeen.{one_type_is}
use Rattle.names.proofs.field_descriptor.is_one_type.Goals as goal

pub returns-then-not-is_empty : goal.returns-then-not-is_empty
returns-then-not-is_empty c = λ h.
    let all = eqb-true c.type_end.result (length c.args.bytes.now) h in
    let some = eqb-false _ _ (sym c.if-not-is_empty.ensures) in
    one_type_is c.args.bytes.now c.type_end.result (c.type_end.ensures.read (omega (arith, all, some))) all
