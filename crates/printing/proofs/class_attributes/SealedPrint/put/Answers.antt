use Rattle.std.proofs.Common.{sym, subst}
use Rattle.std.proofs.lemmas.List.Folds.{flat_map-map}
use Rattle.classfile.specs.Views.{class_attribute_view}
use Rattle.printing.specs.Classes.{permits_lines}
use Rattle.printing.specs.Writing.{Writes}
use Rattle.printing.proofs.class_attributes.SealedPrint.put.Goals as goal

pub returns : goal.returns
returns g c =
    let held = g.W.Write.contents in
    subst (λ text. Writes (held c.args.out.now) (held c.put_lines.new.out) text c.put_lines.result) (sym (flat_map-map (permits_lines c.args.self.now.pool.now) class_attribute_view c.args.self.now.attributes.now)) c.put_lines.ensures
