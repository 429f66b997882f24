use Rattle.std.proofs.Common.{◌≡◌, List, drop}
use Rattle.classfile.specs.Methods.{ExceptionEntry}
use Rattle.method_frames.specs.MapFrames.{frames_by}
use Rattle.rules.specs.Bodies.{method_view}
use Rattle.verify.specs.DifferencesAt.{first_refused}
use Rattle.verify.specs.private.pass.Exceptions.{AreEntriesBy}
use Rattle.verify.proofs.exceptions.first_refused.Given as goal

abbrev pub invariant-loop-place : goal.invariant-loop-place
invariant-loop-place g l =
    let x = l.frames in
    let first = first_refused x.types.classes (method_view l.body.method.now) (frames_by x.types x.declared) in
    (es : List ExceptionEntry) → AreEntriesBy x.types es l.entries → first 0 es ≡ first l.place (drop l.place es)
