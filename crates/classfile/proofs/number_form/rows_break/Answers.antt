use Rattle.std.proofs.Common.{◌≡◌, ◌∙◌, ◌-◌, ◌+◌, ℕ, suc, ap, arith}
use Rattle.std.specs.List.{list_any}
use Rattle.classfile.specs.Numbers.{rows_in}
use Rattle.classfile.specs.NumberForm.{breaks, row_breaks}
use Rattle.classfile.proofs.Rows.{one_row}
use Rattle.classfile.proofs.number_form.rows_break.Goals as goal

pub loop-preserved : goal.loop-preserved
loop-preserved c =
    let test = breaks c.args.pool.now c.args.rule in
    let columns = c.args.columns.now in
    let left = c.args.count - (c.loop.counter + 1) in
    let more : c.args.count - c.loop.counter ≡ suc left = omega (arith, c.loop-test.true) in
    c.loop.invariant ∙ ap (λ (k : ℕ). list_any (row_breaks test columns) (rows_in columns k c.loop.rest.now)) more ∙ one_row test columns left c.loop.rest.now c.in-Some.behind.now c.in-Some.ensures
