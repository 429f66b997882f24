use Rattle.std.proofs.Common.{◌≡◌, ◌∙◌, [], Some, None, map, slice_get, option_map, ap, sym, subst}
use Rattle.std.specs.Option.{option_map_or}
use Rattle.std.proofs.lemmas.Option.{slice_get-map, slice_get-get_or, slice_get_past}
use Rattle.classfile.specs.Views.{member_view}
use Rattle.printing.specs.Json.{fields_then}
use Rattle.printing.specs.ClassParts.{member_fields}
use Rattle.printing.specs.Writing.{Writes}
use Rattle.printing.proofs.class_parts.put_member_fields.Goals as goal

pub returns-in-Some : goal.returns-in-Some
returns-in-Some g c =
    let held = g.W.Write.contents in
    let fields = member_fields c.args.pool.now in
    let rest = g.B.Print.text c.args.behind in
    let members = c.args.members.now in
    let there : Some (member_view c.in-Some.member.now) ≡ slice_get (map member_view members) c.args.number =
    ap (λ m. Some (member_view m)) c.in-Some.ensures.lookup.1
    ∙ sym (ap (option_map member_view) (slice_get-get_or members c.args.number c.in-Some.member.now c.in-Some.ensures.lookup.3.0)) ∙ sym (slice_get-map member_view members c.args.number) in
    subst (λ o. Writes (held c.args.out.now) (held c.put.new.out) (fields_then (option_map_or fields o []) rest) c.put.result) there c.put.ensures

pub returns-in-None : goal.returns-in-None
returns-in-None g c =
    let held = g.W.Write.contents in
    let fields = member_fields c.args.pool.now in
    let rest = g.B.Print.text c.args.behind in
    let members = c.args.members.now in
    let there : None ≡ slice_get (map member_view members) c.args.number =
    sym (ap (option_map member_view) (slice_get_past members c.args.number c.in-None.ensures.lookup.3)) ∙ sym (slice_get-map member_view members c.args.number) in
    subst (λ o. Writes (held c.args.out.now) (held c.put-in-None.new.out) (fields_then (option_map_or fields o []) rest) c.put-in-None.result) there c.put-in-None.ensures
