use Rattle.std.proofs.Common.{slice_index_or}
use Rattle.std.proofs.lemmas.List.{get_or_default}
use Rattle.std.proofs.lemmas.Result.{err_from_is_err_and}
use Rattle.layout.specs.Faults.{UnlessWriteMemory-map}
use Rattle.layout.specs.PieceLaws.{rest_ok, rest_err, rest_end}
use Rattle.frames.specs.declared.stack_map.TypeInfo.TheVariants.{Top}
use Rattle.frames.specs.StackMaps.{type_pieces}
use Rattle.frames.specs.MapViews.{info_of}
use Rattle.frames.proofs.map_writing.put_types.Goals as goal

pub returns-in_err-put_type : goal.returns-in_err-put_type
returns-in_err-put_type c =
    let p = err_from_is_err_and c.from_residual.result c.from_residual.ensures.1 in
    let info = slice_index_or c.loop-rest.rest.now 0 Top in
    rw (p.1, p.2) (UnlessWriteMemory-map c.in_err-put_type.field-0.0
    (rest_err info_of type_pieces c.loop-rest.rest.now info c.loop-rest.out _ c.in_err-put_type.field-0.0 c.in-len1-up.len_at_least (get_or_default c.loop-rest.rest.now 0 Top info c.in-len1-up.len_at_least) c.loop-rest.invariant)
    c.in_err-put_type.ensures)

pub loop-rest-preserved : goal.loop-rest-preserved
loop-rest-preserved c =
    let info = slice_index_or c.loop-rest.rest.now 0 Top in
    rest_ok info_of type_pieces c.loop-rest.rest.now info c.loop-rest.out c.put_type.new.out _ c.in-len1-up.len_at_least (get_or_default c.loop-rest.rest.now 0 Top info c.in-len1-up.len_at_least) c.in_ok-put_type.ensures c.loop-rest.invariant

pub returns : goal.returns
returns c = rest_end info_of type_pieces c.loop-rest.rest.now c.loop-rest.out _ c.in_default.len_below c.loop-rest.invariant
