use Rattle.names.proofs.Judged.{method_is_found, method_is_accepted, method_is_faulty, method_is_refused, method_is_within, method_has_few}
use Rattle.names.proofs.reading.method_type.Goals as goal

pub returns-clause-found : goal.returns-clause-found
returns-clause-found c = rw (← c.bytes.ensures) (method_is_found c.args.receiver c.bytes.result.now c.judge_method.result c.judge_method.ensures)

pub returns-clause-accepted : goal.returns-clause-accepted
returns-clause-accepted c = rw (← c.bytes.ensures) (method_is_accepted c.args.receiver c.bytes.result.now c.judge_method.result c.judge_method.ensures)

pub returns-clause-fault : goal.returns-clause-fault
returns-clause-fault c = rw (← c.bytes.ensures) (method_is_faulty c.args.receiver c.bytes.result.now c.judge_method.result c.judge_method.ensures)

pub returns-clause-refused : goal.returns-clause-refused
returns-clause-refused c = rw (← c.bytes.ensures) (method_is_refused c.args.receiver c.bytes.result.now c.judge_method.result c.judge_method.ensures)

pub returns-clause-within : goal.returns-clause-within
returns-clause-within c = method_is_within c.args.receiver c.bytes.result.now c.judge_method.result c.judge_method.ensures

pub returns-clause-few : goal.returns-clause-few
returns-clause-few c = method_has_few c.args.receiver c.bytes.result.now c.judge_method.result c.judge_method.ensures
