use Rattle.std.proofs.Common.{sym, subst}
use Rattle.classfile.specs.Views.{class_view}
use Rattle.classfile.specs.declared.form_fault.Place.{Place}
use Rattle.printing.specs.ClassParts.{part_lines}
use Rattle.printing.specs.Writing.{Writes}
use Rattle.printing.proofs.class_parts.PartLinesPrint.put.Goals as goal

pub returns-in-Class : goal.returns-in-Class
returns-in-Class g c =
    let held = g.W.Write.contents in
    subst (λ (p : Place). Writes (held c.args.out.now) (held c.put-in-Class.new.out) (part_lines (class_view c.args.self.now.class.now) p) c.put-in-Class.result) (sym c.in-Class.is) c.put-in-Class.ensures
