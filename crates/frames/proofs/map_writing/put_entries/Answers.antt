use Rattle.std.proofs.lemmas.Result.{err_from_is_err_and}
use Rattle.layout.specs.Faults.{UnlessWriteMemory-map}
use Rattle.layout.specs.PieceLaws.{rest_ok, rest_err, rest_end}
use Rattle.frames.specs.StackMaps.{entry_pieces}
use Rattle.frames.specs.MapViews.{entry_of}
use Rattle.frames.proofs.map_writing.put_entries.Goals as goal

pub returns-in_err-put_entry : goal.returns-in_err-put_entry
returns-in_err-put_entry c =
    let p = err_from_is_err_and c.from_residual.result c.from_residual.ensures.1 in
    rw (p.1, p.2) (UnlessWriteMemory-map c.in_err-put_entry.field-0.0
    (rest_err entry_of entry_pieces c.loop-rest.rest.now c.entry-item.result c.loop-rest.out _ c.in_err-put_entry.field-0.0 c.in-len1-up.len_at_least c.entry-item.is c.loop-rest.invariant)
    c.in_err-put_entry.ensures)

pub loop-rest-preserved : goal.loop-rest-preserved
loop-rest-preserved c =
    rest_ok entry_of entry_pieces c.loop-rest.rest.now c.entry-item.result c.loop-rest.out c.put_entry.new.out _ c.in-len1-up.len_at_least c.entry-item.is c.in_ok-put_entry.ensures c.loop-rest.invariant

pub returns : goal.returns
returns c = rest_end entry_of entry_pieces c.loop-rest.rest.now c.loop-rest.out _ c.in_default.len_below c.loop-rest.invariant
