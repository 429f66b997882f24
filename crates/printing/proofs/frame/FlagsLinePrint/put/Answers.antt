use Rattle.std.proofs.Common.{Bool, sym, subst}
use Rattle.printing.specs.Writing.{Writes}
use Rattle.printing.specs.Frames.{flags_line}
use Rattle.printing.proofs.frame.FlagsLinePrint.put.Goals as goal

pub returns-then-self : goal.returns-then-self
returns-then-self g c =
    let held = g.W.Write.contents in
    subst (λ (b : Bool). Writes (held c.args.out.now) (held c.put.new.out) (flags_line c.args.self.now.label.now b) c.put.result) (sym c.if-self.true) c.put.ensures
