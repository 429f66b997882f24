use Rattle.std.proofs.Common.{map, take}
use Rattle.frames.specs.VerificationType.{type_of}
use Rattle.type_numbers.specs.Numbers.{Extends}
use Rattle.type_numbers.specs.MethodNumbers.{AreNumbers}
use Rattle.verify.proofs.applying.numbers_of.Given as goal

abbrev pub invariant-loop-vtype : goal.invariant-loop-vtype
invariant-loop-vtype g l = record {
  kept : Extends l.fn.types l.types;
  numbered : AreNumbers l.types l.numbers.items (map type_of (take l.vtype-index l.vtypes));
}
