use Rattle.std.proofs.Common.{◌∙◌, Option, ℕ, sym, ap}
use Rattle.std.specs.Option.{unwrap_or}
use Rattle.classfile.specs.LayoutViews.{numbers_view}
use Rattle.classfile.proofs.NumberRows.{many_rows}
use Rattle.classfile.proofs.numbers.Numbers.rows.Goals as goal

pub returns-then-self : goal.returns-then-self
returns-then-self c = c.unwrap_or.ensures ∙ ap (λ (o : Option ℕ). unwrap_or o 0) c.first_number.ensures ∙ sym (many_rows (numbers_view c.args.self.now) c.if-self.true)
