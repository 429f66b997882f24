use Rattle.std.proofs.Common.{ap, ◌∙◌, ℕ, List, get_or}
use Rattle.insn.specs.Opcodes.{opcodes}
use Rattle.insn.proofs.Rows.{length_there}
use Rattle.insn.proofs.table.unconstrained_length.Goals as goal

pub returns : goal.returns
returns c = c.from.ensures ∙ (ap (λ (xs : List ℕ). get_or xs c.args.number 0) c.unconstrained_lengths.ensures ∙ length_there opcodes 54 c.args.number)
