use Rattle.std.proofs.Common.{◌≡◌, ◌∙◌, ◌-◌, ◌+◌, ℕ, suc, ap, sym, arith}
use Rattle.classfile.specs.private.TableBodies.{are_bad_rows}
use Rattle.classfile.specs.Views.{code_view}
use Rattle.classfile.specs.release.DebugTables.{variables_in}
use Rattle.classfile.proofs.DebugRows.{one_good}
use Rattle.classfile.proofs.release_form.few_rows.are_bad_rows.Goals as goal

pub loop-n-preserved : goal.loop-n-preserved
loop-n-preserved c =
    let table = c.args.table in
    let pool = c.args.pool.now in
    let code = code_view c.args.code.now in
    let left = (c.args.rows.count - c.loop-n.n) - 1 in
    let more : c.args.rows.count - c.loop-n.n ≡ suc left = omega (arith, c.loop-n-test.true) in
    let same : left ≡ c.args.rows.count - (c.loop-n.n + 1) = omega arith in
    record {
      kept = c.is_bad_row.ensures.kept;
      rests = c.loop-n.invariant.rests ∙ ap (λ (k : ℕ). are_bad_rows table pool code (variables_in k c.loop-n.rest.now)) more
          ∙ one_good table pool code left c.loop-n.rest.now c.in-Some.row c.in-Some.behind.now c.in-Some.ensures (sym c.is_bad_row.ensures.told ∙ c.if-is_bad_row.false)
          (sym c.is_among.ensures ∙ c.if-is_among.false)
          ∙ ap (λ (k : ℕ). are_bad_rows table pool code (variables_in k c.in-Some.behind.now)) same;
    }
