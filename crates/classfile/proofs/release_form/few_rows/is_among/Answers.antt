use Rattle.std.proofs.Common.{◌≡◌, ◌∙◌, ◌-◌, ◌+◌, ℕ, suc, ap, sym, arith}
use Rattle.std.specs.List.{list_any}
use Rattle.classfile.specs.release.DebugTables.{variables_in, are_same}
use Rattle.classfile.proofs.DebugRows.{one_other, none_other}
use Rattle.classfile.proofs.release_form.few_rows.is_among.Goals as goal

pub returns-in_default : goal.returns-in_default
returns-in_default c =
    let test = are_same c.args.row in
    let left = c.args.count - (c.loop.counter + 1) in
    let more : c.args.count - c.loop.counter ≡ suc left = omega (arith, c.loop-test.true) in
    sym (c.loop.invariant ∙ ap (λ (k : ℕ). list_any test (variables_in k c.loop.rest.now)) more ∙ none_other c.args.row left c.loop.rest.now c.in_default.ensures)

pub loop-preserved : goal.loop-preserved
loop-preserved c =
    let test = are_same c.args.row in
    let left = c.args.count - (c.loop.counter + 1) in
    let more : c.args.count - c.loop.counter ≡ suc left = omega (arith, c.loop-test.true) in
    c.loop.invariant ∙ ap (λ (k : ℕ). list_any test (variables_in k c.loop.rest.now)) more
    ∙ one_other c.args.row left c.loop.rest.now c.in-Some.same c.in-Some.behind.now c.in-Some.ensures c.if-same.false
