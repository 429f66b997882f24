use Rattle.std.proofs.Common.{◌≡◌, ◌∙◌, [], Some, option_map, ap, sym, subst}
use Rattle.std.specs.Option.{option_map_or}
use Rattle.pool.specs.Views.{view}
use Rattle.printing.specs.Writing.{Writes}
use Rattle.printing.specs.Json.{fields_then}
use Rattle.printing.specs.Constants.{entry_field, standing}
use Rattle.printing.proofs.constants.ConstantFieldsPrint.put.Goals as goal

pub returns-in-Some : goal.returns-in-Some
returns-in-Some g c =
    let held = g.W.Write.contents in
    let self = c.args.self.now in
    let there : Some (view c.in-Some.constant) ≡ standing self.pool.now self.index = sym (ap (option_map view) c.in-Some.is) ∙ c.standing.ensures in
    subst (λ o. Writes (held c.args.out.now) (held c.put.new.out) (fields_then (option_map_or (entry_field self.pool.now self.index) o []) (g.B.Print.text self.behind)) c.put.result) there c.put.ensures
