use Rattle.std.proofs.Common.{◌∷◌, ap, sym, ◌∙◌}
use Rattle.names.specs.Descriptors.{void_letter}
use Rattle.names.specs.ReadTypes.{type_read}
use Rattle.names.proofs.MethodReader.{result_by_type}
use Rattle.names.proofs.Kept.{result_is_void, result_is_outside}
use Rattle.names.proofs.reading.read_result.Goals as goal

pub returns-then-is_first : goal.returns-then-is_first
returns-then-is_first c =
    result_is_void c.args.bytes.now c.split_at.result.1.now (c.is_first.ensures.yes c.if-is_first.true ∙ ap (◌∷◌ void_letter) (sym c.split_at.ensures.back))

pub returns-in-Ok : goal.returns-in-Ok
returns-in-Ok c = result_by_type c.args.bytes.now c.in-Ok.after.now (type_read c.in-Ok.field) c.in-Ok.ensures

pub returns-in-Err : goal.returns-in-Err
returns-in-Err c = result_is_outside c.args.bytes.now c.in-Err.stop.rest.now (c.is_first.ensures.no c.if-is_first.false) c.in-Err.ensures
