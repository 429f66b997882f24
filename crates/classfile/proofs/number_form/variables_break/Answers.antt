use Rattle.std.proofs.Common.{◌≡◌, ◌∙◌, ◌-◌, ◌+◌, ℕ, suc, ap, arith}
use Rattle.std.specs.List.{list_any}
use Rattle.classfile.specs.declared.number_form.IndexRule.TheVariants.{Both}
use Rattle.classfile.specs.private.IndexColumns.{variable}
use Rattle.classfile.specs.Numbers.{rows_in}
use Rattle.classfile.specs.NumberForm.{breaks, row_breaks}
use Rattle.classfile.proofs.Rows.{one_row}
use Rattle.classfile.proofs.number_form.variables_break.Goals as goal

pub loop-done-preserved : goal.loop-done-preserved
loop-done-preserved c =
    let test = breaks c.args.pool.now Both in
    let left = c.args.count - (c.loop-done.done + 1) in
    let more : c.args.count - c.loop-done.done ≡ suc left = omega (arith, c.loop-done-test.true) in
    c.loop-done.invariant ∙ ap (λ (k : ℕ). list_any (row_breaks test variable) (rows_in variable k c.loop-done.rest.now)) more
    ∙ one_row test variable left c.loop-done.rest.now c.in-Some.behind.now c.in-Some.ensures
