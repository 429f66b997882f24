use Rattle.std.proofs.Common.{◌∙◌, ◌<◌, ◌*◌, ℕ, List, length, drop, sym, ap, arith}
use Rattle.classfile.specs.LayoutViews.{numbers_view}
use Rattle.classfile.specs.private.IndexColumns.{first_number, behind_count}
use Rattle.classfile.specs.Numbers.{rows_of}
use Rattle.classfile.proofs.NumberRows.{past_rows, past_columns, number_found}
use Rattle.classfile.proofs.numbers.Numbers.get.Goals as goal
use Rattle.classfile.proofs.numbers.Numbers.get.Goals.{then-row-rows-via-then-row-rows, then-row-rows-via-else-row-rows+then-column-columns}

pub returns-then-row-rows : goal.returns-then-row-rows
returns-then-row-rows c =
    let n = numbers_view c.args.self.now in
    elim c.then-row-rows.branch [
      | then-row-rows-via-then-row-rows w ↦ sym (past_rows n c.args.row c.args.column (omega (arith, w.if-row-rows.true, c.rows.ensures)))
      | then-row-rows-via-else-row-rows+then-column-columns w ↦
          sym (past_columns n c.args.row c.args.column (omega (arith, w.if-row-rows.false, c.rows.ensures)) (omega (arith, w.if-column-columns.true)))
    ]

pub returns : goal.returns
returns c =
    let n = numbers_view c.args.self.now in
    let within : c.args.row < length (rows_of n) = omega (arith, c.if-row-rows.false, c.rows.ensures) in
    let here : c.args.column < length n.layout.columns = omega (arith, c.if-column-columns.false) in
    let width = 2 * length n.layout.columns in
    c.first_number.ensures
    ∙ ap first_number c.behind.ensures
    ∙ ap (λ (b : List ℕ). first_number (drop (c.args.column * 2) b)) (c.behind-rows.ensures ∙ ap (λ (b : List ℕ). drop (c.from.result * width) b) c.behind_count.ensures
    ∙ ap (λ (k : ℕ). drop (k * width) (behind_count n)) c.from.ensures)
    ∙ sym (number_found n c.args.row c.args.column within here)
