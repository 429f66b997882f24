use Rattle.std.proofs.Common.{ℕ, List, [], ◌∷◌, codes, ap, subst}
use Rattle.classfile.specs.Views.{handler_view}
use Rattle.printing.specs.CodeLines.{catch_string}
use Rattle.printing.specs.Json.{strings, fields_then}
use Rattle.printing.specs.Writing.{Writes}
use Rattle.printing.proofs.Fields.{of_views}
use Rattle.printing.proofs.code.HandlersFieldPrint.put.Goals as goal

pub returns : goal.returns
returns g c =
    let held = g.W.Write.contents in
    let self = c.args.self.now in
    let rest = g.B.Print.text self.behind in
    let text : List (List ℕ) → List ℕ = λ (all : List (List ℕ)). fields_then ((codes "exception_table", strings all) ∷ []) rest in
    subst (λ t. Writes (held c.args.out.now) (held c.put.new.out) t c.put.result) (ap text (of_views (catch_string self.pool.now) handler_view self.table.now)) c.put.ensures
