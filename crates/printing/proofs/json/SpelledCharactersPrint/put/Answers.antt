use Rattle.std.proofs.Common.{[], is_none, if◌then◌else◌, sym, subst}
use Rattle.std.specs.List.{flat_map}
use Rattle.names.specs.Units.{units_of}
use Rattle.printing.specs.Json.{character_text}
use Rattle.printing.specs.Writing.{Writes}
use Rattle.printing.proofs.json.SpelledCharactersPrint.put.Goals as goal

pub returns-in-Err : goal.returns-in-Err
returns-in-Err g c =
    let held = g.W.Write.contents in
    let (k, is, bad) = c.in-Err.ensures.exact in
    subst (λ o. Writes (held c.args.out.now) (held c.put-in-Err.new.out) (flat_map character_text (if is_none o then units_of c.args.self.now.0.now else [])) c.put-in-Err.result) (sym bad) c.put-in-Err.ensures
