use Rattle.type_numbers.specs.Numbers.{Extends}
use Rattle.type_numbers.specs.private.Readings.{AreTexts, shared_row}
use Rattle.type_numbers.proofs.Tables.{AreFilled}
use Rattle.type_numbers.proofs.constant_table.ConstantTable.new.Given as goal

abbrev pub invariant-loop-constant : goal.invariant-loop-constant
invariant-loop-constant g l = record {
  filled : AreFilled l.numbers (shared_row l.texts) l.pool l.constants.items l.constant-index;
  texts : AreTexts l.numbers l.pool l.texts;
  kept : Extends l.fn.numbers l.numbers;
}
