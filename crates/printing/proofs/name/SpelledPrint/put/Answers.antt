use Rattle.std.proofs.Common.{[], is_none, if◌then◌else◌, sym, subst}
use Rattle.printing.specs.Names.{name_text}
use Rattle.printing.specs.Writing.{Writes}
use Rattle.printing.proofs.name.SpelledPrint.put.Goals as goal

pub returns-in-Err : goal.returns-in-Err
returns-in-Err g c =
    let held = g.W.Write.contents in
    let (k, is, bad) = c.in-Err.ensures.exact in
    subst (λ o. Writes (held c.args.out.now) (held c.put_bytes.new.out) (if is_none o then name_text c.args.self.now.0.now else []) c.put_bytes.result) (sym bad) c.put_bytes.ensures
