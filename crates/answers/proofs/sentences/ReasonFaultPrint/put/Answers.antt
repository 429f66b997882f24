use Rattle.std.proofs.Common.{sym, subst}
use Rattle.rules.specs.declared.reason.Reason.{Reason}
use Rattle.printing.specs.Writing.{Writes}
use Rattle.answers.specs.Sentences.{fault_lines}
use Rattle.answers.proofs.sentences.ReasonFaultPrint.put.Goals as goal

pub returns-in-BadStackMap : goal.returns-in-BadStackMap
returns-in-BadStackMap g c =
    let held = g.W.Write.contents in
    subst (λ (why : Reason). Writes (held c.args.out.now) (held c.put.new.out) (fault_lines why) c.put.result) (sym c.in-BadStackMap.is) c.put.ensures

pub returns-in-BadCode : goal.returns-in-BadCode
returns-in-BadCode g c =
    let held = g.W.Write.contents in
    subst (λ (why : Reason). Writes (held c.args.out.now) (held c.put-in-BadCode.new.out) (fault_lines why) c.put-in-BadCode.result) (sym c.in-BadCode.is) c.put-in-BadCode.ensures
