-- Each method so far has its verdict, and where they are asked for, its frames were found.
use Rattle.std.proofs.Common.{◌≡◌, ℕ, true, length, Some}
use Rattle.std.specs.Prelude.{slice_get}
use Rattle.classfile.specs.CodeMethods.{judged_class}
use Rattle.verify.specs.declared.report.MethodVerdict.{MethodVerdict}
use Rattle.verify.specs.Reports.{IsReported}
use Rattle.verify.proofs.Counted.{AreFramedSoFar}
use Rattle.verify.proofs.explanation.explain_methods.Given as goal

abbrev pub invariant-loop-number : goal.invariant-loop-number
invariant-loop-number g l = record {
  members : l.constants.members ≡ record { class = l.formed.class.now; classes = l.fn.frames.types.classes };
  types : l.frames.types ≡ l.fn.frames.types;
  count : length l.methods.items ≡ l.number;
  each : (n : ℕ) (r : MethodVerdict) → slice_get l.methods.items n ≡ Some r → IsReported l.fn.frames.types.classes (judged_class l.formed) n r;
  framed : l.framed ≡ true → AreFramedSoFar l.fn.frames.types.classes (judged_class l.formed) l.methods.items l.all.items l.left;
}
