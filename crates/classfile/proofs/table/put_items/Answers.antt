use Rattle.std.proofs.lemmas.Result.{err_from_is_err_and}
use Rattle.layout.specs.Faults.{UnlessWriteMemory-map}
use Rattle.layout.specs.PieceLaws.{rest_ok, rest_err, rest_end}
use Rattle.classfile.proofs.table.put_items.Goals as goal

pub returns-in_err-put : goal.returns-in_err-put
returns-in_err-put g c =
    let p = err_from_is_err_and c.from_residual.result c.from_residual.ensures.1 in
    rw (p.1, p.2) (UnlessWriteMemory-map c.in_err-put.field-0.0
    (rest_err g.T.Item.view (g.T.Item.pieces c.args.pool.now c.args.location) c.loop-rest.rest.now c.item-item.result c.loop-rest.out _ c.in_err-put.field-0.0 c.in-len1-up.len_at_least c.item-item.is c.loop-rest.invariant)
    c.in_err-put.ensures)

pub loop-rest-preserved : goal.loop-rest-preserved
loop-rest-preserved g c =
    rest_ok g.T.Item.view (g.T.Item.pieces c.args.pool.now c.args.location) c.loop-rest.rest.now c.item-item.result c.loop-rest.out c.put.new.out _ c.in-len1-up.len_at_least c.item-item.is c.in_ok-put.ensures c.loop-rest.invariant

pub returns : goal.returns
returns g c = rest_end g.T.Item.view (g.T.Item.pieces c.args.pool.now c.args.location) c.loop-rest.rest.now c.loop-rest.out _ c.in_default.len_below c.loop-rest.invariant
