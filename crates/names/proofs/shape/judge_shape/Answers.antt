use Rattle.std.proofs.Common.{sym, ap, ◌∙◌, eqb-true, Err}
use Rattle.std.specs.Option.{option_map}
use Rattle.std.proofs.lemmas.Bool.{eqb-false}
use Rattle.names.specs.ReadTypes.{type_read}
use Rattle.names.specs.Reading.{method_type}
use Rattle.names.proofs.Judged.{method_rest_within, method_answer_outside, method_answer_over}
use Rattle.names.proofs.ShapeLaws.{judged_shape, method_stop_within}
use Rattle.names.proofs.shape.judge_shape.Goals as goal

pub bad_descriptor-requires : goal.bad_descriptor-requires
bad_descriptor-requires c = method_stop_within c.args.bytes.now c.in-Err.stop.rest.now c.in-Err.ensures

pub bad_descriptor-requires-then-not-is_empty : goal.bad_descriptor-requires-then-not-is_empty
bad_descriptor-requires-then-not-is_empty c =
    let p = c.in-Ok.ensures in
    method_rest_within c.args.bytes.now c.in-Ok.over.now (method_type p.types (option_map type_read c.in-Ok.returned)) p.reads

pub returns-in-Err : goal.returns-in-Err
returns-in-Err c = method_answer_outside c.args.receiver c.args.bytes.now c.in-Err.stop.rest.now c.in-Err.ensures ∙ ap Err (sym c.bad_descriptor.ensures)

pub returns-then-not-is_empty : goal.returns-then-not-is_empty
returns-then-not-is_empty c =
    let p = c.in-Ok.ensures in
    rw c.bad_descriptor-then-not-is_empty.ensures
    (method_answer_over c.args.receiver c.args.bytes.now c.in-Ok.over.now (method_type p.types (option_map type_read c.in-Ok.returned)) p.reads (eqb-false _ _ (sym c.if-not-is_empty.ensures)))

pub returns-else-not-is_empty : goal.returns-else-not-is_empty
returns-else-not-is_empty c =
    let p = c.in-Ok.ensures in
    judged_shape c.args.receiver c.args.bytes.now c.in-Ok.over.now (method_type p.types (option_map type_read c.in-Ok.returned)) c.shape_within.result p.reads (eqb-true _ _ (sym c.if-not-is_empty.ensures)) (c.shape_within.ensures p.types p.sums)
