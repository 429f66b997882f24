use Rattle.std.proofs.Common.{◌≡◌, ◌∷◌, sym, ap, ◌∙◌, arith, inl, inr}
use Rattle.std.specs.Option.{option_map}
use Rattle.std.proofs.lemmas.Result.{err_from_is_err_and}
use Rattle.names.specs.declared.fault.NameFault.TheVariants.{BadDescriptor}
use Rattle.names.specs.Descriptors.{left_parenthesis}
use Rattle.names.specs.ReadTypes.{type_read}
use Rattle.names.proofs.Kept.{method_is_read, stop_in_params, stop_in_result, no_method_begins, result_stop_shorter, params_shorter}
use Rattle.names.proofs.reading.read_method.Goals as goal

pub returns-then-not-is_first-clause-fault : goal.returns-then-not-is_first-clause-fault
returns-then-not-is_first-clause-fault c =
    inr (record { stop = c.args.bytes.now; reads = no_method_begins c.args.bytes.now (c.is_first.ensures.no c.if-not-is_first.true); is = ap BadDescriptor (omega arith) })

pub returns-in_err-params-clause-fault : goal.returns-in_err-params-clause-fault
returns-in_err-params-clause-fault c =
    let p = err_from_is_err_and c.from_residual.result c.from_residual.ensures.1 in
    let is : c.args.bytes.now ≡ left_parenthesis ∷ c.split_at.result.1.now = c.is_first.ensures.yes c.if-not-is_first.false ∙ ap (◌∷◌ left_parenthesis) (sym c.split_at.ensures.back) in
    rw (p.1, p.2)
    (elim c.in_err-params.ensures.fault [
      | inl memory ↦ inl memory
      | inr f ↦ inr (record { stop = f.stop; reads = stop_in_params c.args.bytes.now c.split_at.result.1.now f.stop is f.reads; is = f.is })
    ])

pub returns-in-Ok-clause-read : goal.returns-in-Ok-clause-read
returns-in-Ok-clause-read c =
    let p = c.in_ok-params.ensures.read in
    let is : c.args.bytes.now ≡ left_parenthesis ∷ c.split_at.result.1.now = c.is_first.ensures.yes c.if-not-is_first.false ∙ ap (◌∷◌ left_parenthesis) (sym c.split_at.ensures.back) in
    record {
      types = p.types;
      keeps = p.keeps;
      reads = method_is_read c.args.bytes.now c.split_at.result.1.now c.in_ok-params.rest.now c.in-Ok.after.now p.types (option_map type_read c.in-Ok.result) is p.reads c.in-Ok.ensures;
    }

pub bad_descriptor-requires : goal.bad_descriptor-requires
bad_descriptor-requires c =
    let p = c.in_ok-params.ensures.read in
    omega (arith, params_shorter c.split_at.result.1.now c.in_ok-params.rest.now p.types p.reads, result_stop_shorter c.in_ok-params.rest.now c.in-Err.stop.rest.now c.in-Err.ensures, c.split_at.ensures.back_len)

pub returns-clause-fault : goal.returns-clause-fault
returns-clause-fault c =
    let p = c.in_ok-params.ensures.read in
    let is : c.args.bytes.now ≡ left_parenthesis ∷ c.split_at.result.1.now = c.is_first.ensures.yes c.if-not-is_first.false ∙ ap (◌∷◌ left_parenthesis) (sym c.split_at.ensures.back) in
    inr (record {
      stop = c.in-Err.stop.rest.now;
      reads = stop_in_result c.args.bytes.now c.split_at.result.1.now c.in_ok-params.rest.now c.in-Err.stop.rest.now p.types is p.reads c.in-Err.ensures;
      is = c.bad_descriptor.ensures;
    })
