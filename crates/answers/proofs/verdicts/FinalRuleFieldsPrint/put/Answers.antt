use Rattle.std.proofs.Common.{sym, subst}
use Rattle.printing.specs.Json.{fields_then}
use Rattle.printing.specs.Writing.{Writes}
use Rattle.verify.specs.declared.final_rules.FinalRule.{FinalRule}
use Rattle.answers.specs.Verdicts.{final_rule_fields}
use Rattle.answers.proofs.verdicts.FinalRuleFieldsPrint.put.Goals as goal

pub returns-in-FinalOverridden : goal.returns-in-FinalOverridden
returns-in-FinalOverridden g c =
    let held = g.W.Write.contents in
    subst (λ (r : FinalRule). Writes (held c.args.out.now) (held c.put-in-FinalOverridden.new.out) (fields_then (final_rule_fields r) (g.B.Print.text c.args.self.now.1)) c.put-in-FinalOverridden.result) (sym c.in-FinalOverridden.is) c.put-in-FinalOverridden.ensures
