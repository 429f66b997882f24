-- Where an instruction goes depends on its act alone: its typing rule goes on and branches as the act does, in each
-- method and for each constant that it names.
use Rattle.std.specs.Prelude.{◌≡◌}
use Rattle.classfile.specs.Methods.{Method}
use Rattle.insn.specs.Meanings.{Act}
use Rattle.rules.specs.TypingRules.{falls, offsets_of}
use Rattle.rules.specs.Table.{typing_rule}
use Rattle.rules.specs.Ways.{goes_on, branch_offsets}

abbrev pub TypingRulesGoAsActs : Type 0
TypingRulesGoAsActs = (m : Method Act) (a : Act) → (goes_on a ≡ falls (typing_rule m a))
    × (branch_offsets a ≡ offsets_of (typing_rule m a))
