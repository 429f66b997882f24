use Rattle.std.proofs.Common.{sym, subst}
use Rattle.classfile.specs.Views.{class_view}
use Rattle.classfile.specs.declared.form_fault.Place.{Place}
use Rattle.printing.specs.Json.{fields_then}
use Rattle.printing.specs.ClassParts.{part_fields}
use Rattle.printing.specs.Writing.{Writes}
use Rattle.printing.proofs.class_parts.PartFieldsPrint.put.Goals as goal

pub returns-in-Class : goal.returns-in-Class
returns-in-Class g c =
    let held = g.W.Write.contents in
    let self = c.args.self.now in
    subst (λ (p : Place). Writes (held c.args.out.now) (held c.put-in-Class.new.out) (fields_then (part_fields (class_view self.class.now) p) (g.B.Print.text self.behind)) c.put-in-Class.result) (sym c.in-Class.is) c.put-in-Class.ensures
