use Rattle.std.proofs.Common.{[], is_none, if◌then◌else◌, sym, subst}
use Rattle.names.specs.Units.{units_of}
use Rattle.printing.specs.Json.{string_text}
use Rattle.printing.specs.Writing.{Writes}
use Rattle.printing.proofs.json.QuotedSpelledPrint.put.Goals as goal

pub returns-in-Err : goal.returns-in-Err
returns-in-Err g c =
    let held = g.W.Write.contents in
    let (k, is, bad) = c.in-Err.ensures.exact in
    subst (λ o. Writes (held c.args.out.now) (held c.put-in-Err.new.out) (string_text (if is_none o then units_of c.args.self.now.0.now else [])) c.put-in-Err.result) (sym bad) c.put-in-Err.ensures
