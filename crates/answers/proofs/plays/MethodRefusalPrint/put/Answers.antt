use Rattle.std.proofs.Common.{◌++◌, [], ◌∷◌, sym, subst}
use Rattle.std.specs.Prelude.{codes}
use Rattle.printing.specs.Json.{number, fields_behind}
use Rattle.printing.specs.Writing.{Writes}
use Rattle.answers.specs.Plays.{class_by_number, method_refusal}
use Rattle.answers.specs.Verdicts.{verdict_line}
use Rattle.answers.specs.declared.command.Form.{Form}
use Rattle.answers.proofs.plays.MethodRefusalPrint.put.Goals as goal

pub returns-in-Json : goal.returns-in-Json
returns-in-Json g c =
    let held = g.W.Write.contents in
    let refusal = c.args.self.now in
    let told = subst (λ (f : Form). Writes (held c.args.out.now) (held c.put-in-Json.new.out) (class_by_number refusal.number (fields_behind ((codes "number", number 84) ∷ [])) ++ verdict_line f refusal.method) c.put-in-Json.result) c.in-Json.is c.put-in-Json.ensures in
    subst (λ (f : Form). Writes (held c.args.out.now) (held c.put-in-Json.new.out) (method_refusal f refusal.number refusal.method) c.put-in-Json.result) (sym c.in-Json.is) told
