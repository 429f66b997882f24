use Rattle.std.proofs.Common.{subst}
use Rattle.printing.specs.Writing.{Writes}
use Rattle.printing.proofs.Fields.{array_of}
use Rattle.printing.proofs.json.StringsPrint.put.Goals as goal

pub returns-in-Some : goal.returns-in-Some
returns-in-Some g c =
    let held = g.W.Write.contents in
    let self = c.args.self.now in
    subst (λ t. Writes (held c.args.out.now) (held c.put-in-Some.new.out) t c.put-in-Some.result)
    (array_of (g.L.Lines.line self.0) c.in-Some.first.now c.in-Some.others.now self.1.now c.in-Some.ensures.cases.0) c.put-in-Some.ensures
