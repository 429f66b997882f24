use Rattle.std.proofs.Common.{◌≡◌, ◌-◌, Ok, length, take, sym, ap, ◌∙◌}
use Rattle.insn.specs.SwitchParts.{table_switch_of}
use Rattle.insn.specs.Views.{table_switch_view}
use Rattle.insn.proofs.Kept.{table_kept}
use Rattle.insn.proofs.instruction_reading.table_switch.Goals as goal

pub taken-requires : goal.taken-requires
taken-requires c =
    let kept = table_kept c.args.at c.args.cursor.now c.table_switch_parts.new.cursor (table_switch_view c.in_ok-table_switch_parts.field-0) c.in_ok-table_switch_parts.ensures in
    rw (c.rest-bytes.ensures, c.rest.ensures) kept.0

pub returns : goal.returns
returns c =
    let at = c.args.at in
    let old = c.args.cursor.now in
    let new = c.table_switch_parts.new.cursor in
    let x = table_switch_view c.in_ok-table_switch_parts.field-0 in
    let kept = table_kept at old new x c.in_ok-table_switch_parts.ensures in
    let taken : c.taken.result.now ≡ take (length old.rest - length new.rest) old.rest = rw (← c.rest-bytes.ensures, ← c.rest.ensures) c.taken.ensures in
    let same = ap table_switch_of taken ∙ kept.1 in
    c.in_ok-table_switch_parts.ensures ∙ ap (λ y. Ok (y, new)) (sym same)
