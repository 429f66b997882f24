use Rattle.std.proofs.Common.{sym, subst}
use Rattle.std.proofs.lemmas.List.Folds.{flat_map-map}
use Rattle.classfile.specs.Views.{handler_view}
use Rattle.printing.specs.CodeLines.{catch_line}
use Rattle.printing.specs.Writing.{Writes}
use Rattle.printing.proofs.code.HandlersPrint.put.Goals as goal

pub returns : goal.returns
returns g c =
    let held = g.W.Write.contents in
    subst (λ text. Writes (held c.args.out.now) (held c.put_lines.new.out) text c.put_lines.result) (sym (flat_map-map (catch_line c.args.self.now.pool.now) handler_view c.args.self.now.table.now)) c.put_lines.ensures
