use Rattle.std.proofs.Common.{◌∙◌, ap, sym, subst}
use Rattle.std.specs.List.{flat_map}
use Rattle.std.proofs.lemmas.List.Folds.{flat_map-map}
use Rattle.classfile.specs.Views.{component_view}
use Rattle.printing.specs.Classes.{component_line}
use Rattle.printing.specs.Writing.{Writes}
use Rattle.printing.proofs.class_attributes.RecordsLinesClassAttribute.put_line.Goals as goal

pub returns : goal.returns
returns g c =
    let held = g.W.Write.contents in
    let line = component_line c.args.self.now.pool.now in
    subst (λ text. Writes (held c.args.out.now) (held c.put_lines.new.out) text c.put_lines.result)
    (sym (flat_map-map line component_view c.components.result.now) ∙ ap (flat_map line) c.components.ensures) c.put_lines.ensures
