use Rattle.std.proofs.Common.{sym, eqb-true}
use Rattle.std.proofs.lemmas.Bool.{eqb-false}
use Rattle.names.specs.ReadTypes.{type_read}
use Rattle.names.proofs.Judged.{rest_within, stop_within, answer_outside, answer_over, judged_field}
use Rattle.names.proofs.reading.judge_field.Goals as goal

pub bad_descriptor-requires : goal.bad_descriptor-requires
bad_descriptor-requires c = stop_within c.args.bytes.now c.in-Err.stop.rest.now c.in-Err.ensures

pub bad_descriptor-requires-then-not-is_empty : goal.bad_descriptor-requires-then-not-is_empty
bad_descriptor-requires-then-not-is_empty c = rest_within c.args.bytes.now c.in-Ok.rest.now (type_read c.in-Ok.field) c.in-Ok.ensures

pub returns-then-not-is_empty : goal.returns-then-not-is_empty
returns-then-not-is_empty c =
    rw c.bad_descriptor-then-not-is_empty.ensures
    (answer_over c.args.bytes.now c.in-Ok.rest.now (type_read c.in-Ok.field) c.in-Ok.ensures (eqb-false _ _ (sym c.if-not-is_empty.ensures)))

pub returns-in-Err : goal.returns-in-Err
returns-in-Err c = rw c.bad_descriptor.ensures (answer_outside c.args.bytes.now c.in-Err.stop.rest.now c.in-Err.ensures)

pub returns-else-not-is_empty : goal.returns-else-not-is_empty
returns-else-not-is_empty c =
    judged_field c.args.bytes.now c.in-Ok.rest.now c.in-Ok.field c.limited.result c.in-Ok.ensures (eqb-true _ _ (sym c.if-not-is_empty.ensures)) c.limited.ensures.within c.limited.ensures.deep
