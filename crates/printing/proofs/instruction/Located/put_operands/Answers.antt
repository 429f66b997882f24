use Rattle.std.proofs.Common.{rules, ◌≡◌, ◌∙◌, ◌++◌, ℕ, ℤ, List, sym, ap, subst, SFits, w32, to_z, of_z}
use Rattle.std.proofs.lemmas.Int.{to_z-of_z}
use Rattle.std.specs.List.{flat_map}
use Rattle.insn.specs.Meanings.{offsets}
use Rattle.insn.specs.SwitchParts.{table_switch_of, default_of, low_of, high_of, table_of}
use Rattle.insn.specs.Views.{operands_view}
use Rattle.printing.specs.Writing.{Writes}
use Rattle.printing.specs.InstructionLines.{value_text, target_text, operands_text}
use Rattle.printing.proofs.instruction.Located.put_operands.Goals as goal

-- the text of parts that are those of a `tableswitch`
same_text : (at start : ℕ) (offset default l low h high : ℤ) (left table : List ℕ) → start ≡ at → offset ≡ default → l ≡ low → h ≡ high → left ≡ table
    → (value_text l ++ (value_text h ++ (target_text start offset ++ flat_map (target_text at) (offsets left))))
    ≡ (value_text low ++ (value_text high ++ (target_text at default ++ flat_map (target_text at) (offsets table))))
same_text at start offset default l low h high left table a b c d e = cc

pub returns-in-TableSwitch : goal.returns-in-TableSwitch
returns-in-TableSwitch g c =
    let held = g.W.Write.contents in
    let at = c.args.self.now.at in
    let bytes = c.in-TableSwitch.bytes.now in
    let s = c.new-switch.result in
    let t = c.target-in-TableSwitch.result in
    let parts = c.new-switch.ensures in
    let low : SFits w32 s.low = search rules in
    let high : SFits w32 s.high = search rules in
    let default : SFits w32 s.default = search rules in
    let view : operands_view c.args.self.now.insn.operands ≡ table_switch_of bytes = ap operands_view c.in-TableSwitch.is in
    subst (λ text. Writes (held c.args.out.now) (held c.put-in-TableSwitch.new.out) text c.put-in-TableSwitch.result)
    (same_text at t.at t.offset (default_of bytes) (to_z w32 (of_z w32 s.low)) (low_of bytes) (to_z w32 (of_z w32 s.high)) (high_of bytes) s.offsets.now (table_of bytes) c.target-in-TableSwitch.ensures.0 (c.target-in-TableSwitch.ensures.1 ∙ to_z-of_z w32 s.default default ∙ parts.default) (to_z-of_z w32 s.low low ∙ parts.low) (to_z-of_z w32 s.high high ∙ parts.high) parts.offsets ∙ ap (operands_text at) (sym view))
    c.put-in-TableSwitch.ensures
