use Rattle.std.proofs.Common.{Bool, sym, subst}
use Rattle.printing.specs.Frames.{flag_fields}
use Rattle.printing.specs.Json.{fields_then}
use Rattle.printing.specs.Writing.{Writes}
use Rattle.printing.proofs.frame.FlagFieldsPrint.put.Goals as goal

pub returns-then-self : goal.returns-then-self
returns-then-self g c =
    let held = g.W.Write.contents in
    let self = c.args.self.now in
    subst (λ (b : Bool). Writes (held c.args.out.now) (held c.put.new.out) (fields_then (flag_fields self.name.now b) (g.B.Print.text self.behind)) c.put.result) (sym c.if-self.true) c.put.ensures
