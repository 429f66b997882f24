use Rattle.std.proofs.Common.{List, ℕ, length}
use Rattle.names.specs.Descriptors.{FieldDescriptor}
use Rattle.type_numbers.specs.Numbers.{Extends}
use Rattle.type_numbers.specs.private.SpelledTypes.{AreInFront}
use Rattle.type_numbers.proofs.PushedTypes.{ArePushing}
use Rattle.type_numbers.proofs.method_numbers.push_numbers.Given as goal

abbrev pub invariant-types : goal.invariant-types
invariant-types g l = record {
  kept : Extends l.fn.numbers l.numbers;
  pushed : (types : List FieldDescriptor) (rest : List ℕ) → AreInFront l.bytes types rest → ArePushing l.numbers l.fn.row.items l.row.items l.rest types rest;
}

abbrev pub decreases-types : goal.decreases-types
decreases-types g l = length l.rest
