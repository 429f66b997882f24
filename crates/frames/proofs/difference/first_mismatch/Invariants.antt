use Rattle.std.proofs.Common.{◌≡◌, map, drop}
use Rattle.frames.specs.VerificationType.{type_of}
use Rattle.frames.specs.FrameAssignable.{slot_answer}
use Rattle.frames.specs.Differences.{is_sought, first_mismatch}
use Rattle.frames.proofs.difference.first_mismatch.Given as goal

abbrev pub invariant-loop-place : goal.invariant-loop-place
invariant-loop-place g l =
    let f = slot_answer (g.C.Classes.content l.classes) l.on_stack in
    let s = is_sought l.sought in
    first_mismatch s f 0 (map type_of l.from) (map type_of l.to) ≡ first_mismatch s f l.place (map type_of (drop l.place l.from)) (map type_of (drop l.place l.to))
