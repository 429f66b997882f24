use Rattle.std.proofs.Common.{◌≡◌, ◌∙◌, ℕ, List, [], ◌++◌, Option, sym, ap, subst}
use Rattle.std.specs.Option.{option_map_or}
use Rattle.classfile.specs.declared.file_parts.FilePart.{FilePart}
use Rattle.printing.specs.FaultFields.{place_fields}
use Rattle.printing.specs.FileParts.{tagged_fields, attribute_fields, file_part_fields}
use Rattle.printing.specs.Json.{fields_then}
use Rattle.printing.specs.Writing.{Writes}
use Rattle.printing.proofs.Fields.{fields_of_both}
use Rattle.printing.proofs.file_parts.FilePartFieldsPrint.put.Goals as goal

pub returns-in-Some : goal.returns-in-Some
returns-in-Some g c =
    let held = g.W.Write.contents in
    let rest = g.B.Print.text c.args.self.now.1 in
    let part = c.in-Some.part in
    let place = place_fields part.place in
    let constant = tagged_fields part.place part.tag in
    let attribute = option_map_or attribute_fields part.attribute [] in
    let same : fields_then (place ++ (constant ++ attribute)) rest ≡ fields_then place (fields_then constant (fields_then attribute rest)) =
    fields_of_both place (constant ++ attribute) rest ∙ ap (fields_then place) (fields_of_both constant attribute rest) in
    subst (λ (o : Option FilePart). Writes (held c.args.out.now) (held c.put.new.out) (fields_then (option_map_or file_part_fields o []) rest) c.put.result)
    (sym c.in-Some.is)
    (subst (λ (l : List ℕ). Writes (held c.args.out.now) (held c.put.new.out) l c.put.result) (sym same) c.put.ensures)
