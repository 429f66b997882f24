use Rattle.std.proofs.Common.{◌<◌, length, arith, eqb-true}
use Rattle.names.proofs.Scan.{class_to_the_end, no_class_there}
use Rattle.names.proofs.name.is_class_name_by_front.Goals as goal

pub returns-then-front-name : goal.returns-then-front-name
returns-then-front-name c =
    let f = c.class_name_front-front in
    class_to_the_end c.args.name.now f.result.0 f.result.1 c.if-front-name.true f.ensures.ends

pub returns-else-front-name : goal.returns-else-front-name
returns-else-front-name c =
    let f = c.class_name_front-front in
    let not_all = c.if-front-name.false in
    let within = f.ensures.within in
    let less : f.result.0 < length c.args.name.now = omega arith in
    (λ h. absurd (not_all (eqb-true _ _ h)), λ h. absurd (no_class_there c.args.name.now f.result.0 f.result.1 less f.ensures.stops f.ensures.ends h))
