use Rattle.names.proofs.Judged.{field_is_found, field_is_accepted, field_is_faulty, field_is_refused}
use Rattle.names.proofs.reading.field_type.Goals as goal

pub returns-clause-found : goal.returns-clause-found
returns-clause-found c = rw (← c.bytes.ensures) (field_is_found c.bytes.result.now c.judge_field.result c.judge_field.ensures)

pub returns-clause-accepted : goal.returns-clause-accepted
returns-clause-accepted c = rw (← c.bytes.ensures) (field_is_accepted c.bytes.result.now c.judge_field.result c.judge_field.ensures)

pub returns-clause-fault : goal.returns-clause-fault
returns-clause-fault c = rw (← c.bytes.ensures) (field_is_faulty c.bytes.result.now c.judge_field.result c.judge_field.ensures)

pub returns-clause-refused : goal.returns-clause-refused
returns-clause-refused c = rw (← c.bytes.ensures) (field_is_refused c.bytes.result.now c.judge_field.result c.judge_field.ensures)
