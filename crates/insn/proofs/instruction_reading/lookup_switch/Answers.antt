use Rattle.std.proofs.Common.{◌≡◌, ◌-◌, Ok, length, take, sym, ap, ◌∙◌}
use Rattle.insn.specs.SwitchParts.{lookup_switch_of}
use Rattle.insn.specs.Views.{lookup_switch_view}
use Rattle.insn.proofs.Kept.{lookup_kept}
use Rattle.insn.proofs.instruction_reading.lookup_switch.Goals as goal

pub taken-requires : goal.taken-requires
taken-requires c =
    let kept = lookup_kept c.args.at c.args.cursor.now c.lookup_switch_parts.new.cursor (lookup_switch_view c.in_ok-lookup_switch_parts.field-0) c.in_ok-lookup_switch_parts.ensures in
    rw (c.rest-bytes.ensures, c.rest.ensures) kept.0

pub returns : goal.returns
returns c =
    let at = c.args.at in
    let old = c.args.cursor.now in
    let new = c.lookup_switch_parts.new.cursor in
    let x = lookup_switch_view c.in_ok-lookup_switch_parts.field-0 in
    let kept = lookup_kept at old new x c.in_ok-lookup_switch_parts.ensures in
    let taken : c.taken.result.now ≡ take (length old.rest - length new.rest) old.rest = rw (← c.rest-bytes.ensures, ← c.rest.ensures) c.taken.ensures in
    let same = ap lookup_switch_of taken ∙ kept.1 in
    c.in_ok-lookup_switch_parts.ensures ∙ ap (λ y. Ok (y, new)) (sym same)
