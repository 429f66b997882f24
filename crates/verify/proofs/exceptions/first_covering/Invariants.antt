use Rattle.std.proofs.Common.{◌≡◌, List, drop}
use Rattle.classfile.specs.Methods.{ExceptionEntry}
use Rattle.type_numbers.specs.Numbers.{Numbering}
use Rattle.verify.specs.DifferencesAt.{first_covering}
use Rattle.verify.specs.private.pass.Exceptions.{AreEntriesBy}
use Rattle.verify.proofs.exceptions.first_covering.Given as goal

abbrev pub invariant-loop-place : goal.invariant-loop-place
invariant-loop-place l = (s : Numbering) (es : List ExceptionEntry) → AreEntriesBy s es l.entries → first_covering l.at 0 es ≡ first_covering l.at l.place (drop l.place es)
