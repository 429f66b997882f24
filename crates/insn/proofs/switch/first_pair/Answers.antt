use Rattle.std.proofs.Common.{rules, SFits, w32, ◌∙◌}
use Rattle.std.proofs.lemmas.Int.{to_z-of_z}
use Rattle.insn.proofs.Keys.{pairs_on}
use Rattle.insn.proofs.switch.first_pair.Goals as goal

pub returns-in-len8-up : goal.returns-in-len8-up
returns-in-len8-up c =
    let key : SFits w32 c.read_i32-key.result = search rules in
    let offset : SFits w32 c.read_i32-offset.result = search rules in
    pairs_on c.args.bytes.now _ _ c.in-len8-up.len_at_least (to_z-of_z w32 _ key ∙ c.read_i32-key.ensures) (to_z-of_z w32 _ offset ∙ c.read_i32-offset.ensures)
