use Rattle.std.proofs.Common.{◌≡◌, ◌∷◌, ◌++◌, [], refl, sym, ap, ◌∙◌, arith, inr}
use Rattle.names.specs.Descriptors.{right_parenthesis}
use Rattle.names.specs.ReadTypes.{type_read}
use Rattle.names.proofs.Kept.{params_end, params_fail, one_type_more, field_shorter, stop_shorter}
use Rattle.names.proofs.reading.read_params.Goals as goal

pub returns-then-is_first-clause-read : goal.returns-then-is_first-clause-read
returns-then-is_first-clause-read c =
    let i = c.types.invariant in
    let is : c.types.rest.now ≡ right_parenthesis ∷ c.split_at.result.1.now = c.is_first.ensures.yes c.if-is_first.true ∙ ap (◌∷◌ right_parenthesis) (sym c.split_at.ensures.back) in
    record { types = i.types; keeps = i.keeps; reads = params_end c.args.bytes.now c.types.rest.now c.split_at.result.1.now i.types i.so_far is }

pub types-smaller : goal.types-smaller
types-smaller c = field_shorter c.types.rest.now c.in-Ok.after.now (type_read c.in-Ok.field) c.in-Ok.ensures

pub types-preserved : goal.types-preserved
types-preserved c =
    let i = c.types.invariant in
    let t = type_read c.in-Ok.field in
    let shorter = field_shorter c.types.rest.now c.in-Ok.after.now t c.in-Ok.ensures in
    record {
      types = i.types ++ t ∷ [];
      keeps = c.in_ok-add-in-Ok.ensures i.types i.keeps;
      so_far = one_type_more c.args.bytes.now c.types.rest.now c.in-Ok.after.now i.types t i.so_far c.in-Ok.ensures;
      within = omega (arith, i.within);
    }

pub overflow_sub-at : goal.overflow_sub-at
overflow_sub-at c =
    let i = c.types.invariant in
    let shorter = stop_shorter c.types.rest.now c.in-Err.stop.rest.now c.in-Err.ensures in
    omega (arith, i.within, c.requires)

pub returns-in-Err-clause-fault : goal.returns-in-Err-clause-fault
returns-in-Err-clause-fault c =
    let i = c.types.invariant in
    inr (record {
      stop = c.in-Err.stop.rest.now;
      reads = params_fail c.args.bytes.now c.types.rest.now c.in-Err.stop.rest.now i.types i.so_far (c.is_first.ensures.no c.if-is_first.false) c.in-Err.ensures;
      is = refl;
    })
