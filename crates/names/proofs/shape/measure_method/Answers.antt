use Rattle.std.proofs.Common.{◌≡◌, ◌∷◌, sym, ap, ◌∙◌}
use Rattle.std.specs.Option.{option_map}
use Rattle.names.specs.Descriptors.{left_parenthesis}
use Rattle.names.specs.ReadTypes.{type_read}
use Rattle.names.proofs.Kept.{method_is_read, stop_in_params, stop_in_result, no_method_begins}
use Rattle.names.proofs.shape.measure_method.Goals as goal

pub returns-then-not-is_first : goal.returns-then-not-is_first
returns-then-not-is_first c = no_method_begins c.args.bytes.now (c.is_first.ensures.no c.if-not-is_first.true)

pub returns-in-Err : goal.returns-in-Err
returns-in-Err c =
    let is : c.args.bytes.now ≡ left_parenthesis ∷ c.split_at.result.1.now =
    c.is_first.ensures.yes c.if-not-is_first.false ∙ ap (◌∷◌ left_parenthesis) (sym c.split_at.ensures.back) in
    stop_in_params c.args.bytes.now c.split_at.result.1.now c.in-Err.stop.rest.now is c.in-Err.ensures

pub returns-in-Ok-read_result : goal.returns-in-Ok-read_result
returns-in-Ok-read_result c =
    let p = c.in-Ok.ensures in
    let is : c.args.bytes.now ≡ left_parenthesis ∷ c.split_at.result.1.now =
    c.is_first.ensures.yes c.if-not-is_first.false ∙ ap (◌∷◌ left_parenthesis) (sym c.split_at.ensures.back) in
    record {
      types = p.types;
      sums = p.sums;
      reads = method_is_read c.args.bytes.now c.split_at.result.1.now c.in-Ok.rest.now c.in-Ok-read_result.after.now p.types (option_map type_read c.in-Ok-read_result.returned) is p.reads c.in-Ok-read_result.ensures;
    }

pub returns-in-Err-read_result : goal.returns-in-Err-read_result
returns-in-Err-read_result c =
    let p = c.in-Ok.ensures in
    let is : c.args.bytes.now ≡ left_parenthesis ∷ c.split_at.result.1.now =
    c.is_first.ensures.yes c.if-not-is_first.false ∙ ap (◌∷◌ left_parenthesis) (sym c.split_at.ensures.back) in
    stop_in_result c.args.bytes.now c.split_at.result.1.now c.in-Ok.rest.now c.in-Err-read_result.stop.rest.now p.types is p.reads c.in-Err-read_result.ensures
