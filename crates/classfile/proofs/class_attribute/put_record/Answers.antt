use Rattle.std.proofs.Common.{ap, ◌∙◌, map, Result}
use Rattle.std.proofs.lemmas.Result.{err_from_is_err_and}
use Rattle.layout.specs.declared.fault.WriteFault.{WriteFault}
use Rattle.layout.specs.Pieces.{Written, field, marked, lengthened, then_writes}
use Rattle.layout.specs.Faults.{UnlessWriteMemory-map}
use Rattle.layout.specs.PieceLaws.{writes_append, counted}
use Rattle.layout.specs.AttributeLaws.{still, goes_end, goes_body, goes_begin}
use Rattle.classfile.specs.private.Pieces.{component_pieces}
use Rattle.classfile.specs.Views.{component_view}
use Rattle.classfile.proofs.class_attribute.put_record.Goals as goal

pub end-requires : goal.end-requires
end-requires c = still (marked c.args.fine (counted (component_pieces c.args.pool.now) (map component_view c.args.components.now.items))) c.put_u2.new.self c.begin.new.self c.put_marked_components.new.out c.in_ok-mark.mark c.in_ok-mark.ensures c.in_ok-put_marked_components.ensures

pub returns : goal.returns
returns c =
    goes_end c.args.name (marked c.args.fine (counted (component_pieces c.args.pool.now) (map component_view c.args.components.now.items))) c.args.out.now c.put_u2.new.self c.begin.new.self c.put_marked_components.new.out c.end.new.self c.in_ok-mark.mark c.end.result
    c.in_ok-put_u2.ensures c.in_ok-mark.ensures c.in_ok-put_marked_components.ensures c.end.ensures

pub returns-in_err-put_u2 : goal.returns-in_err-put_u2
returns-in_err-put_u2 c =
    let rest = lengthened (marked c.args.fine (counted (component_pieces c.args.pool.now) (map component_view c.args.components.now.items))) in
    let p = err_from_is_err_and c.from_residual.result c.from_residual.ensures.1 in
    rw (p.1, p.2) (UnlessWriteMemory-map c.in_err-put_u2.field-0.0
    (λ e. writes_append (field 2 c.args.name) rest c.args.out.now ∙ ap (λ (r : Result Written WriteFault). then_writes r rest) e)
    c.in_err-put_u2.ensures)

pub returns-in_err-mark : goal.returns-in_err-mark
returns-in_err-mark c =
    let p = err_from_is_err_and c.from_residual-in_err-mark.result c.from_residual-in_err-mark.ensures.1 in
    rw (p.1, p.2) (UnlessWriteMemory-map c.in_err-mark.field-0.0
    (goes_begin c.args.name (marked c.args.fine (counted (component_pieces c.args.pool.now) (map component_view c.args.components.now.items))) c.args.out.now c.put_u2.new.self c.in_err-mark.field-0.0 c.in_ok-put_u2.ensures)
    c.in_err-mark.ensures)

pub returns-in_err-put_marked_components : goal.returns-in_err-put_marked_components
returns-in_err-put_marked_components c =
    let p = err_from_is_err_and c.from_residual-in_err-put_marked_components.result c.from_residual-in_err-put_marked_components.ensures.1 in
    rw (p.1, p.2) (UnlessWriteMemory-map c.in_err-put_marked_components.field-0.0
    (goes_body c.args.name (marked c.args.fine (counted (component_pieces c.args.pool.now) (map component_view c.args.components.now.items))) c.args.out.now c.put_u2.new.self c.begin.new.self c.in_ok-mark.mark c.in_err-put_marked_components.field-0.0 c.in_ok-put_u2.ensures c.in_ok-mark.ensures)
    c.in_err-put_marked_components.ensures)
