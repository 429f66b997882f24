use Rattle.classfile.specs.Methods.{Method}
use Rattle.insn.specs.Meanings.{Act}
use Rattle.type_numbers.specs.Numbers.{Numbering}
use Rattle.numbered_rules.specs.RuleNumbers.{AreRuleNumbers}
use Rattle.verify.proofs.numbered.TableEntries.{Made}
use Rattle.verify.proofs.pass.exceptions.table_entries.Given as goal

abbrev pub invariant-loop-item : goal.invariant-loop-item
invariant-loop-item l = (s : Numbering) (m : Method Act) → AreRuleNumbers s m l.numbers → Made s m.constant_pool l.table l.item-index l.entries.items
