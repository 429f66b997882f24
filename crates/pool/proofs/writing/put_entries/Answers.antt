use Rattle.std.proofs.lemmas.Result.{err_from_is_err_and}
use Rattle.layout.specs.Faults.{UnlessWriteMemory-map}
use Rattle.pool.proofs.Writes.{step_ok, step_err, step_end}
use Rattle.pool.proofs.writing.put_entries.Goals as goal

pub returns-in_err-put_indexed : goal.returns-in_err-put_indexed
returns-in_err-put_indexed c =
    let p = err_from_is_err_and c.from_residual.result c.from_residual.ensures.1 in
    rw (p.1, p.2) (UnlessWriteMemory-map c.in_err-put_indexed.field-0.0
    (step_err c.loop-rest.second c.is_empty.result c.constant-item.result c.loop-rest.rest.now c.loop-rest.out _ c.in_err-put_indexed.field-0.0 c.in-len1-up.len_at_least c.constant-item.is c.is_empty.ensures c.loop-rest.invariant)
    c.in_err-put_indexed.ensures)

pub loop-rest-preserved : goal.loop-rest-preserved
loop-rest-preserved c =
    rw (c.is_wide-second.ensures)
    (step_ok c.loop-rest.second c.is_empty.result c.constant-item.result c.loop-rest.rest.now c.loop-rest.out c.put_indexed.new.out _ c.in-len1-up.len_at_least c.constant-item.is c.is_empty.ensures c.in_ok-put_indexed.ensures c.loop-rest.invariant)

pub returns : goal.returns
returns c = step_end c.loop-rest.second c.loop-rest.rest.now c.loop-rest.out _ c.in_default.len_below c.loop-rest.invariant
