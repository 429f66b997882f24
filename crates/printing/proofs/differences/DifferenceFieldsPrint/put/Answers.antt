use Rattle.std.proofs.Common.{sym, subst}
use Rattle.frames.specs.declared.difference.Difference.{Difference}
use Rattle.frames.specs.Differences.{difference_of}
use Rattle.printing.specs.Writing.{Writes}
use Rattle.printing.specs.Json.{fields_then}
use Rattle.printing.specs.Differences.{difference_fields}
use Rattle.printing.proofs.differences.DifferenceFieldsPrint.put.Goals as goal

pub returns-in-Sizes : goal.returns-in-Sizes
returns-in-Sizes g c =
    let held = g.W.Write.contents in
    subst (λ (d : Difference). Writes (held c.args.out.now) (held c.put-in-Sizes.new.out) (fields_then (difference_fields (difference_of d)) (g.B.Print.text c.args.self.now.1)) c.put-in-Sizes.result)
    (sym c.in-Sizes.is) c.put-in-Sizes.ensures

pub returns-in-Item : goal.returns-in-Item
returns-in-Item g c =
    let held = g.W.Write.contents in
    subst (λ (d : Difference). Writes (held c.args.out.now) (held c.put-in-Item.new.out) (fields_then (difference_fields (difference_of d)) (g.B.Print.text c.args.self.now.1)) c.put-in-Item.result)
    (sym c.in-Item.is) c.put-in-Item.ensures
