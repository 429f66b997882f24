use Rattle.std.proofs.Common.{Err, sym, ap, eqb-true, inl, inr, ◌∙◌}
use Rattle.std.specs.Option.{option_map}
use Rattle.std.proofs.lemmas.Bool.{eqb-false}
use Rattle.std.proofs.lemmas.Result.{err_from_is_err_and}
use Rattle.names.specs.ReadTypes.{type_read}
use Rattle.names.specs.Reading.{method_type}
use Rattle.names.proofs.Judged.{method_rest_within, method_answer_outside, method_answer_over, judged_method}
use Rattle.names.proofs.reading.judge_method.Goals as goal

pub returns-in_err-params : goal.returns-in_err-params
returns-in_err-params c =
    let p = err_from_is_err_and c.from_residual.result c.from_residual.ensures.1 in
    rw (p.1, p.2)
    (elim c.in_err-params.ensures.fault [
      | inl memory ↦ inl memory
      | inr f ↦ inr (method_answer_outside c.args.receiver c.args.bytes.now f.stop f.reads ∙ ap Err (sym f.is))
    ])

pub bad_descriptor-requires : goal.bad_descriptor-requires
bad_descriptor-requires c =
    let p = c.in_ok-params.ensures.read in
    method_rest_within c.args.bytes.now c.in_ok-params.over.now (method_type p.types (option_map type_read c.in_ok-params.returned)) p.reads

pub returns-then-not-is_empty : goal.returns-then-not-is_empty
returns-then-not-is_empty c =
    let p = c.in_ok-params.ensures.read in
    inr (rw c.bad_descriptor.ensures (method_answer_over c.args.receiver c.args.bytes.now c.in_ok-params.over.now (method_type p.types (option_map type_read c.in_ok-params.returned)) p.reads (eqb-false _ _ (sym c.if-not-is_empty.ensures))))

pub returns : goal.returns
returns c =
    let p = c.in_ok-params.ensures.read in
    judged_method c.args.receiver c.args.bytes.now c.in_ok-params.over.now (method_type p.types (option_map type_read c.in_ok-params.returned)) c.limited.result p.reads (eqb-true _ _ (sym c.if-not-is_empty.ensures)) (c.limited.ensures p.types p.keeps)
