use Rattle.std.proofs.Common.{refl}
use Rattle.classfile.proofs.Receivers.{some_are, none_are, same_void, fits_receiver}
use Rattle.classfile.proofs.text_forms.method_form.Goals as goal

pub returns-in-Ok : goal.returns-in-Ok
returns-in-Ok c =
    let h = c.in-Ok.ensures in
    some_are c.args.text.bytes.now h.type _ _ _ h.named (same_void h.type.result _ h.shape.has_result) (fits_receiver h.type _ h.shape.units) refl

pub returns-in-Err : goal.returns-in-Err
returns-in-Err c = none_are c.args.text.bytes.now c.in-Err.field-0 c.in-Err.ensures
