use Rattle.std.proofs.Common.{◌≡◌, map, drop, length}
use Rattle.hierarchy.specs.Answer.{outcome_of}
use Rattle.frames.specs.VerificationType.{type_of}
use Rattle.frames.specs.FrameAssignable.{both, slot_answer, list_answer}
use Rattle.frames.proofs.frame_assignability.slots_assignable.Given as goal

abbrev pub invariant-loop-i : goal.invariant-loop-i
invariant-loop-i g l =
    let f = slot_answer (g.C.Classes.content l.classes) l.on_stack in
    record {
      even : length l.from ≡ length l.to;
      rest : list_answer f (map type_of l.from) (map type_of l.to) ≡ both (outcome_of l.so_far) (list_answer f (map type_of (drop l.i l.from)) (map type_of (drop l.i l.to)));
    }
