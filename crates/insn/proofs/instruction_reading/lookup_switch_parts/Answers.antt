use Rattle.std.proofs.Common.{rules, subst, w32, to_z, of_z}
use Rattle.std.specs.Int.{cast_signed}
use Rattle.layout.specs.Format.{number, part, done, andthen}
use Rattle.insn.specs.private.PartReading.{Decodes}
use Rattle.insn.specs.Instructions.{lookup_switch_at, pairs_behind, padding_at}
use Rattle.insn.specs.Views.{lookup_switch_view}
use Rattle.insn.proofs.Steps.{goes_on, part_read, passed}
use Rattle.insn.proofs.instruction_reading.lookup_switch_parts.Goals as goal

pub returns : goal.returns
unfolding lookup_switch_at
returns c =
    let at = c.args.at in
    let p = c.args.cursor.now in
    let q = c.part.new.self in
    let r = c.u4.new.self in
    let s = c.u4-2.new.self in
    let new = c.pairs.new.cursor in
    let answer = c.pairs.result in
    let padding = c.in_ok-padding.padding.now in
    let default = c.in_ok-or_cut.field-0 in
    let count = c.in_ok-or_cut-2.field-0 in
    let d = passed c.cast_signed-default.result default (search rules) c.cast_signed-default.ensures in
    let n = passed c.cast_signed-count.result count (search rules) c.cast_signed-count.ensures in
    let behind : Decodes at (pairs_behind at padding (cast_signed w32 default) (cast_signed w32 count)) lookup_switch_view s new answer =
    subst (λ z. Decodes at (pairs_behind at padding z (cast_signed w32 count)) lookup_switch_view s new answer) d
    (subst (λ z. Decodes at (pairs_behind at padding (to_z w32 (of_z w32 c.cast_signed-default.result)) z) lookup_switch_view s new answer) n
    c.pairs.ensures) in
    goes_on at (part (padding_at at) done) (λ padding. andthen (number 4) (λ default. andthen (number 4) (λ count.
    pairs_behind at padding (cast_signed w32 default) (cast_signed w32 count)))) lookup_switch_view p q new padding answer
    (part_read at (part (padding_at at) done) (λ b. b.now) p q c.part.result c.in_ok-padding.padding c.part.ensures (search rules))
    (goes_on at (number 4) (λ default. andthen (number 4) (λ count.
    pairs_behind at padding (cast_signed w32 default) (cast_signed w32 count))) lookup_switch_view q r new default answer
    (part_read at (number 4) (λ n. n) q r c.u4.result default c.u4.ensures (search rules))
    (goes_on at (number 4) (λ count.
    pairs_behind at padding (cast_signed w32 default) (cast_signed w32 count)) lookup_switch_view r s new count answer
    (part_read at (number 4) (λ n. n) r s c.u4-2.result count c.u4-2.ensures (search rules))
    behind))
