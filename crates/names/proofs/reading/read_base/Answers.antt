use Rattle.names.proofs.Steps.{base_is_class, base_is_no_class, base_is_primitive, base_is_nothing, base_is_cut}
use Rattle.names.proofs.reading.read_base.Goals as goal

pub returns-in-None : goal.returns-in-None
returns-in-None c = base_is_cut c.args.bytes.now c.in-None.ensures.cases

pub returns-in-Ok : goal.returns-in-Ok
returns-in-Ok c =
    let s = c.in-Some-eq76-default in
    base_is_class c.args.bytes.now s.after.now c.in-Ok.name.now c.in-Ok.after.now s.field-0-0.now s.ensures.cases.0 s.field-0-0-test c.in-Ok.ensures

pub returns-in-Err : goal.returns-in-Err
returns-in-Err c =
    let s = c.in-Some-eq76-default in
    base_is_no_class c.args.bytes.now s.after.now c.in-Err.stop.rest.now s.field-0-0.now s.ensures.cases.0 s.field-0-0-test c.in-Err.ensures

pub returns-in-Some-primitive_of : goal.returns-in-Some-primitive_of
returns-in-Some-primitive_of c =
    base_is_primitive c.args.bytes.now c.in-Some.after.now c.in-Some.letter.now c.in-Some-primitive_of.primitive c.in-Some.ensures.cases.0 c.in-Some.letter-test.1 c.in-Some-primitive_of.ensures

pub returns-in-None-primitive_of : goal.returns-in-None-primitive_of
returns-in-None-primitive_of c =
    base_is_nothing c.args.bytes.now c.in-Some.after.now c.in-Some.letter.now c.in-Some.ensures.cases.0 c.in-Some.letter-test.1 c.in-None-primitive_of.ensures
