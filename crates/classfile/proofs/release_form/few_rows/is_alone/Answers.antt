use Rattle.std.proofs.Common.{◌≡◌, ◌∙◌, ◌-◌, ◌+◌, ℕ, suc, Bool, not, ap, sym, arith}
use Rattle.classfile.specs.declared.release_form.debug_tables.Variable.{Variable}
use Rattle.classfile.specs.release.DebugTables.{variables_in, are_same, is_alone}
use Rattle.classfile.proofs.DebugRows.{one_row}
use Rattle.classfile.proofs.release_form.few_rows.is_alone.Goals as goal

pub loop-preserved : goal.loop-preserved
loop-preserved c =
    let test : Variable → Bool = λ v. are_same v c.args.row in
    let left = c.args.count - (c.loop.counter + 1) in
    let more : c.args.count - c.loop.counter ≡ suc left = omega (arith, c.loop-test.true) in
    c.loop.invariant ∙ ap (λ (k : ℕ). is_alone (variables_in k c.loop.rest.now) c.args.row) more
    ∙ ap not (one_row test left c.loop.rest.now c.in-Some.other c.in-Some.behind.now c.in-Some.ensures (sym c.are_same.ensures ∙ c.if-are_same.false))
