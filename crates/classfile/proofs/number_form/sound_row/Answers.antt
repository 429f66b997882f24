use Rattle.std.proofs.Common.{◌<◌, ◌∙◌, Bool, Some, None, cond, drop, length, ap, sym, arith}
use Rattle.std.proofs.lemmas.List.{length-drop}
use Rattle.classfile.specs.Numbers.{behind_row}
use Rattle.classfile.specs.NumberForm.{breaks}
use Rattle.classfile.proofs.Rows.{short_row}
use Rattle.classfile.proofs.number_form.sound_row.Goals as goal

pub returns-in_default : goal.returns-in_default
returns-in_default c =
    let test = breaks c.args.pool.now c.args.rule in
    let columns = c.args.columns.now in
    let at = c.loop-column.column-index in
    let more : 0 < length (drop at columns) = omega (arith, length-drop at columns, c.loop-column-test.true) in
    let short = short_row test (drop at columns) c.loop-column.rest.now more c.in_default.len_below in
    sym (ap (λ (b : Bool). cond b None (Some (behind_row columns c.args.bytes.now))) (c.loop-column.invariant.0 ∙ short.0) ∙ ap Some (c.loop-column.invariant.1 ∙ short.1))
