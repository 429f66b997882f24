use Rattle.std.proofs.Common.{sym, subst}
use Rattle.rules.specs.declared.unmet_expectations.Unmet.{Unmet}
use Rattle.rules.specs.Unmet.{unmet_of}
use Rattle.printing.specs.Writing.{Writes}
use Rattle.answers.specs.Unmet.{unmet_line}
use Rattle.answers.proofs.unmet_lines.UnmetLinePrint.put.Goals as goal

pub returns-in-Operand : goal.returns-in-Operand
returns-in-Operand g c =
    let held = g.W.Write.contents in
    subst (λ (x : Unmet). Writes (held c.args.out.now) (held c.put.new.out) (unmet_line (unmet_of x)) c.put.result) (sym c.in-Operand.is) c.put.ensures

pub returns-in-Receiver : goal.returns-in-Receiver
returns-in-Receiver g c =
    let held = g.W.Write.contents in
    subst (λ (x : Unmet). Writes (held c.args.out.now) (held c.put-in-Receiver.new.out) (unmet_line (unmet_of x)) c.put-in-Receiver.result) (sym c.in-Receiver.is) c.put-in-Receiver.ensures

pub returns-in-Local : goal.returns-in-Local
returns-in-Local g c =
    let held = g.W.Write.contents in
    subst (λ (x : Unmet). Writes (held c.args.out.now) (held c.put-in-Local.new.out) (unmet_line (unmet_of x)) c.put-in-Local.result) (sym c.in-Local.is) c.put-in-Local.ensures

pub returns-in-Units : goal.returns-in-Units
returns-in-Units g c =
    let held = g.W.Write.contents in
    subst (λ (x : Unmet). Writes (held c.args.out.now) (held c.put-in-Units.new.out) (unmet_line (unmet_of x)) c.put-in-Units.result) (sym c.in-Units.is) c.put-in-Units.ensures
