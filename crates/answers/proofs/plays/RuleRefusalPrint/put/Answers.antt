use Rattle.std.proofs.Common.{sym, subst}
use Rattle.printing.specs.Writing.{Writes}
use Rattle.answers.specs.Plays.{rule_refusal}
use Rattle.answers.specs.declared.command.Form.{Form}
use Rattle.answers.proofs.plays.RuleRefusalPrint.put.Goals as goal

pub returns-in-Json : goal.returns-in-Json
returns-in-Json g c =
    let held = g.W.Write.contents in
    subst (λ (f : Form). Writes (held c.args.out.now) (held c.put-in-Json.new.out) (rule_refusal f c.args.self.now.number c.args.self.now.rule) c.put-in-Json.result) (sym c.in-Json.is) c.put-in-Json.ensures
