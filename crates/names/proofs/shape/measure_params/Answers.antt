use Rattle.std.proofs.Common.{◌≡◌, ◌∷◌, ◌++◌, [], sym, ap, ◌∙◌}
use Rattle.names.specs.Descriptors.{right_parenthesis}
use Rattle.names.specs.ReadTypes.{type_read}
use Rattle.names.proofs.Kept.{at_first, params_end, params_fail, one_type_more, field_shorter}
use Rattle.names.proofs.ShapeLaws.{no_sums}
use Rattle.names.proofs.shape.measure_params.Goals as goal

pub types-init : goal.types-init
types-init c = record { types = []; sums = no_sums; so_far = at_first c.args.bytes.now }

pub returns-then-is_first : goal.returns-then-is_first
returns-then-is_first c =
    let i = c.types.invariant in
    let is : c.types.rest.now ≡ right_parenthesis ∷ c.split_at.result.1.now =
    c.is_first.ensures.yes c.if-is_first.true ∙ ap (◌∷◌ right_parenthesis) (sym c.split_at.ensures.back) in
    record { types = i.types; sums = i.sums; reads = params_end c.args.bytes.now c.types.rest.now c.split_at.result.1.now i.types i.so_far is }

pub types-smaller : goal.types-smaller
types-smaller c = field_shorter c.types.rest.now c.in-Ok.after.now (type_read c.in-Ok.field) c.in-Ok.ensures

pub types-preserved : goal.types-preserved
types-preserved c =
    let i = c.types.invariant in
    let t = type_read c.in-Ok.field in
    record {
      types = i.types ++ t ∷ [];
      sums = c.with-measured.ensures i.types i.sums;
      so_far = one_type_more c.args.bytes.now c.types.rest.now c.in-Ok.after.now i.types t i.so_far c.in-Ok.ensures;
    }

pub returns-in-Err : goal.returns-in-Err
returns-in-Err c =
    let i = c.types.invariant in
    params_fail c.args.bytes.now c.types.rest.now c.in-Err.stop.rest.now i.types i.so_far (c.is_first.ensures.no c.if-is_first.false) c.in-Err.ensures
