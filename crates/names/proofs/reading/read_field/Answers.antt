use Rattle.names.specs.Descriptors.{base_of}
use Rattle.names.proofs.Steps.{field_is_read, field_is_not_read}
use Rattle.names.proofs.reading.read_field.Goals as goal

pub returns-in-Ok : goal.returns-in-Ok
returns-in-Ok c =
    field_is_read c.args.bytes.now c.split_at.result.1.now c.in-Ok.after.now c.brackets-dims.result (base_of c.in-Ok.base) c.brackets-dims.ensures.count c.split_at.ensures.back c.in-Ok.ensures

pub returns-in-Err : goal.returns-in-Err
returns-in-Err c =
    field_is_not_read c.args.bytes.now c.split_at.result.1.now c.in-Err.stop.rest.now c.brackets-dims.result c.brackets-dims.ensures.count c.split_at.ensures.back c.in-Err.ensures
