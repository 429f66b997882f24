use Rattle.std.proofs.Common.{◌≡◌, ◌∙◌, ◌-◌, ◌+◌, ℕ, suc, ap, sym, arith}
use Rattle.std.specs.List.{list_any}
use Rattle.classfile.specs.private.TableBodies.{rows_in}
use Rattle.classfile.specs.release.DebugTables.{variables_in, is_alone}
use Rattle.classfile.proofs.DebugRows.{one_row}
use Rattle.classfile.proofs.release_form.few_rows.one_is_alone.Goals as goal

pub loop-preserved : goal.loop-preserved
loop-preserved c =
    let test = is_alone (rows_in c.args.variables) in
    let left = c.args.types.count - (c.loop.counter + 1) in
    let more : c.args.types.count - c.loop.counter ≡ suc left = omega (arith, c.loop-test.true) in
    c.loop.invariant ∙ ap (λ (k : ℕ). list_any test (variables_in k c.loop.rest.now)) more
    ∙ one_row test left c.loop.rest.now c.in-Some.row c.in-Some.behind.now c.in-Some.ensures (sym c.is_alone.ensures ∙ c.if-is_alone.false)
