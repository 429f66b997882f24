use Rattle.std.proofs.Common.{sym, subst}
use Rattle.printing.specs.Writing.{Writes}
use Rattle.printing.specs.Json.{fields_then}
use Rattle.printing.specs.FaultFields.{fault_fields}
use Rattle.printing.proofs.fault_fields.FaultFieldsPrint.put.Goals as goal

pub returns-in-BadTag : goal.returns-in-BadTag
returns-in-BadTag g c =
    let held = g.W.Write.contents in
    subst (λ f. Writes (held c.args.out.now) (held c.put-in-BadTag.new.out) (fields_then (fault_fields f) (g.B.Print.text c.args.self.now.1)) c.put-in-BadTag.result) (sym c.in-BadTag.is) c.put-in-BadTag.ensures

pub returns-in-BadVersion : goal.returns-in-BadVersion
returns-in-BadVersion g c =
    let held = g.W.Write.contents in
    subst (λ f. Writes (held c.args.out.now) (held c.put-in-BadVersion.new.out) (fields_then (fault_fields f) (g.B.Print.text c.args.self.now.1)) c.put-in-BadVersion.result) (sym c.in-BadVersion.is) c.put-in-BadVersion.ensures
